-- What stands there so far, and then what is left of the text, is the whole.
use Rattle.std.proofs.Common.{◌≡◌, ◌++◌, drop, length, string_bytes}
use Rattle.std.specs.List.{flat_map}
use Rattle.yaml_emit.specs.PrintedTexts.{escaped_character}
use Rattle.std.specs.Str.{chars}
use Rattle.yaml_emit.proofs.quoted.push_between_double.Given as goal

abbrev pub invariant-loop-letter : goal.invariant-loop-letter
invariant-loop-letter l =
    string_bytes l.out ++ flat_map escaped_character (drop (length l.yielded) (chars l.text))
    ≡ string_bytes l.fn.out ++ flat_map escaped_character (chars l.text)
