-- The values so far are put, and keep what they do.
use Rattle.std.proofs.Common.{drop}
use Rattle.yaml_types.proofs.NodeLaws.{ElementsPut}
use Rattle.yaml_types.proofs.impls.list.put_elements.Given as goal

abbrev pub invariant-loop-value : goal.invariant-loop-value
invariant-loop-value g l =
    ElementsPut l.schema l.id.0 g.T.Serialize.written g.T.Serialize.kept l.values (drop l.value-index l.values)
    l.initial.out l.out
