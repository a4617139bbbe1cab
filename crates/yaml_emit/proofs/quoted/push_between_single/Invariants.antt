-- What stands there so far, and then what is left of the text, is the whole.
use Rattle.std.proofs.Common.{◌≡◌, ◌++◌, drop, length, string_bytes, false}
use Rattle.yaml_emit.specs.PrintedTexts.{single_rest}
use Rattle.std.specs.Str.{chars}
use Rattle.yaml_emit.proofs.quoted.push_between_single.Given as goal

abbrev pub invariant-loop-letter : goal.invariant-loop-letter
invariant-loop-letter l =
    string_bytes l.out ++ single_rest l.indent l.broken (drop (length l.yielded) (chars l.text))
    ≡ string_bytes l.fn.out ++ single_rest l.indent false (chars l.text)
