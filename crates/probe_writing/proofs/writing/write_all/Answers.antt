-- A refused document leaves all as it was.
use Rattle.probe_writing.proofs.Writings.{same_opened}
use Rattle.probe_writing.proofs.writing.write_all.Goals as goal

pub returns-in_err-serialize_typed : goal.returns-in_err-serialize_typed
returns-in_err-serialize_typed c = same_opened _ _ c.in_err-serialize_typed.ensures.1 c.loop-content.invariant
