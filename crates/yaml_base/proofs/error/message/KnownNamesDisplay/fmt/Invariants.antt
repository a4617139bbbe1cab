-- What was written so far is the names so far, each behind a comma.
use Rattle.std.proofs.Common.{take, ◌++◌, codes}
use Rattle.std.specs.List.{flat_map}
use Rattle.std.specs.Fmt.{HasWritten, IsPlainFormatter}
use Rattle.yaml_base.specs.CauseText.{ticked}
use Rattle.yaml_base.proofs.error.message.KnownNamesDisplay.fmt.Given as goal

abbrev pub invariant-loop-name : goal.invariant-loop-name
invariant-loop-name g l = IsPlainFormatter l.initial.f
    → HasWritten g.W.Write.write_str_gives l.initial.f
    (flat_map (λ name. codes ", " ++ ticked name) (take l.name-index l.others)) l.f
