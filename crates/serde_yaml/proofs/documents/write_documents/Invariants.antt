-- A document was written for each value so far.
use Rattle.std.proofs.Common.{take}
use Rattle.serde_yaml.proofs.WrittenDocuments.{AreTaken}
use Rattle.serde_yaml.proofs.documents.write_documents.Given as goal

abbrev pub invariant-loop-value : goal.invariant-loop-value
invariant-loop-value g l =
    AreTaken g.T.Serialize.start g.T.Serialize.written g.T.Serialize.kept l.fn.out (take l.value-index l.values)
    l.out
