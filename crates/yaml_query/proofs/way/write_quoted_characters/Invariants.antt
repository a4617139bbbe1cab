-- What was written so far is the characters so far, as they stand between quotes.
use Rattle.std.specs.List.{flat_map}
use Rattle.std.specs.Fmt.{HasWritten, IsPlainFormatter}
use Rattle.yaml_query.specs.StepsText.{quoted_character}
use Rattle.yaml_query.proofs.way.write_quoted_characters.Given as goal

abbrev pub invariant-loop-c : goal.invariant-loop-c
invariant-loop-c g l = IsPlainFormatter l.fn.f
    → HasWritten g.W.Write.write_str_gives l.fn.f (flat_map quoted_character l.yielded) l.f
