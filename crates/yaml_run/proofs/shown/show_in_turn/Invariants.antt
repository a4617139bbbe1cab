-- What is shown of the documents that are left, put behind what was shown, is shown of all.
use Rattle.std.proofs.Common.{length, string_bytes}
use Rattle.serde_yaml.specs.PlainStream.{items_left}
use Rattle.yaml_run.proofs.ShownLaws.{Showing}
use Rattle.yaml_run.proofs.shown.show_in_turn.Given as goal

abbrev pub invariant-loop-document : goal.invariant-loop-document
invariant-loop-document l =
    Showing l.limits l.schema l.id.0 l.initial.documents l.documents (string_bytes l.all.text) l.all.faults.items

abbrev pub decreases-loop-document : goal.decreases-loop-document
decreases-loop-document l = length (items_left l.documents)
