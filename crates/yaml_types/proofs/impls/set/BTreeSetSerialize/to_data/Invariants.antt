-- The data so far is that of the elements so far.
use Rattle.yaml_types.proofs.GatherLaws.{AreShown}
use Rattle.yaml_types.proofs.impls.set.BTreeSetSerialize.to_data.Given as goal

abbrev pub invariant-loop-member : goal.invariant-loop-member
invariant-loop-member g l =
    AreShown g.T.Serialize.written g.T.Serialize.kept l.self.keys l.items.items l.member-iterator
