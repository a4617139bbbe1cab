-- Nothing is open between two documents.
use Rattle.std.proofs.Common.{◌≡◌, []}
use Rattle.probe_writing.proofs.writing.write_all.Given as goal

abbrev pub invariant-loop-content : goal.invariant-loop-content
invariant-loop-content l = l.out.opened ≡ []
