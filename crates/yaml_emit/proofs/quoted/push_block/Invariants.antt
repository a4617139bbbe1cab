-- What stands there so far, and then what is left of the text, is the whole.
use Rattle.std.proofs.Common.{◌≡◌, ◌++◌, drop, length, string_bytes, true}
use Rattle.yaml_emit.specs.PrintedTexts.{block_rest}
use Rattle.std.specs.Str.{chars}
use Rattle.yaml_emit.proofs.quoted.push_block.Given as goal

abbrev pub invariant-loop-letter : goal.invariant-loop-letter
invariant-loop-letter l =
    string_bytes l.out ++ block_rest l.indent l.begins (drop (length l.yielded) (chars l.text))
    ≡ string_bytes l.fn.out ++ block_rest l.indent true (chars l.text)
