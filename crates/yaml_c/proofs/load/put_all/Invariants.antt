-- The rows show the documents that are not left.
use Rattle.std.proofs.Common.{length}
use Rattle.yaml_c.proofs.load.put_all.Given as goal
use Rattle.yaml_c.specs.inner.Showing.{ShowsFirst}

abbrev pub invariant-loop-document : goal.invariant-loop-document
invariant-loop-document l = ShowsFirst l.fn.source
    (record { rows = l.rows; bytes = l.texts; used = l.tally.rows; taken = l.tally.bytes }) l.fn.documents l.documents

abbrev pub decreases-loop-document : goal.decreases-loop-document
decreases-loop-document l = length l.documents
