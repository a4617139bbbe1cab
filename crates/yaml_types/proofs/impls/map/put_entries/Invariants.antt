-- The pairs so far are put, and keep what they do.
use Rattle.yaml_types.proofs.NodeLaws.{PairsPut}
use Rattle.yaml_types.proofs.impls.map.put_entries.Given as goal

abbrev pub invariant-loop-key : goal.invariant-loop-key
invariant-loop-key g l =
    PairsPut l.schema l.ids g.K.Serialize.written g.V.Serialize.written g.K.Serialize.kept g.V.Serialize.kept
    l.entries.entries l.key-iterator l.initial.out l.out
