-- So many events were added.
use Rattle.std.proofs.Common.{take}
use Rattle.yaml_base.specs.DocEventView.{marked_events_of}
use Rattle.yaml_c.proofs.document.put_events.Given as goal
use Rattle.yaml_c.specs.RowDocuments.{shown_each}
use Rattle.yaml_c.specs.inner.Showing.{Adds, all_held}

abbrev pub invariant-loop-place : goal.invariant-loop-place
invariant-loop-place l = Adds l.fn.source
    (record { rows = l.fn.rows; bytes = l.fn.texts; used = l.fn.tally.rows; taken = l.fn.tally.bytes })
    (record { rows = l.rows; bytes = l.texts; used = l.tally.rows; taken = l.tally.bytes })
    (all_held (take l.place (shown_each l.fn.at (marked_events_of l.fn.events) l.fn.ends)))
