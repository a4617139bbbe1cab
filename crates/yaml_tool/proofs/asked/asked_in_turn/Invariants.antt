-- Some documents are answered, and the others are left.
use Rattle.std.proofs.Common.{length, string_bytes}
use Rattle.yaml_tool.proofs.AskedLaws.{Asking}
use Rattle.yaml_tool.proofs.asked.asked_in_turn.Given as goal

abbrev pub invariant-loop-read : goal.invariant-loop-read
invariant-loop-read l =
    Asking l.question l.initial.documents l.documents (string_bytes l.all.text) l.all.faults.items

abbrev pub decreases-loop-read : goal.decreases-loop-read
decreases-loop-read l = length l.documents
