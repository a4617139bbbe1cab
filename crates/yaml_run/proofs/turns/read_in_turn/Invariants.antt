-- What is told of the documents that are left, put behind what was told, is told of all.
use Rattle.std.proofs.Common.{length, string_bytes}
use Rattle.serde_yaml.specs.PlainStream.{items_left}
use Rattle.yaml_run.proofs.TurnLaws.{Turning}
use Rattle.yaml_run.proofs.turns.read_in_turn.Given as goal

abbrev pub invariant-loop-document : goal.invariant-loop-document
invariant-loop-document l =
    Turning l.audience l.limits l.schema l.id.0 l.initial.documents l.documents l.ended (string_bytes l.text)

abbrev pub decreases-loop-document : goal.decreases-loop-document
decreases-loop-document l = length (items_left l.documents)
