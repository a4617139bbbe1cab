-- The data so far is that of the values so far, which keep what they do.
use Rattle.yaml_types.proofs.WriteLaws.{AreWritten}
use Rattle.yaml_types.proofs.impls.list.write_items.Given as goal

abbrev pub invariant-loop-value : goal.invariant-loop-value
invariant-loop-value g l = AreWritten g.T.Serialize.written g.T.Serialize.kept l.values l.value-index l.items.items
