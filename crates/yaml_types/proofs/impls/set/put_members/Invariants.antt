-- The members so far are put, and keep what they do.
use Rattle.yaml_types.proofs.NodeLaws.{ElementsPut}
use Rattle.yaml_types.proofs.impls.set.put_members.Given as goal

abbrev pub invariant-loop-member : goal.invariant-loop-member
invariant-loop-member g l =
    ElementsPut l.schema l.id.0 g.T.Serialize.written g.T.Serialize.kept l.members.keys l.member-iterator
    l.initial.out l.out
