-- The data so far is that of the pairs so far.
use Rattle.yaml_types.proofs.WriteLaws.{AreListed}
use Rattle.yaml_types.proofs.impls.map.BTreeMapSerialize.to_data.Given as goal

abbrev pub invariant-loop-key : goal.invariant-loop-key
invariant-loop-key g l =
    AreListed g.K.Serialize.written g.V.Serialize.written g.K.Serialize.kept g.V.Serialize.kept l.self.entries
    l.entries.items l.key-iterator
