-- Each element is written in its turn.
use Rattle.yaml_types.proofs.GatherLaws.{shown_more}
use Rattle.yaml_types.proofs.impls.set.BTreeSetSerialize.to_data.Goals as goal

pub loop-member-preserved : goal.loop-member-preserved
loop-member-preserved g c =
    shown_more g.T.Serialize.written g.T.Serialize.kept c.args.self.now.keys c.loop-member.member-iterator
    c.next.new.self c.loop-member.items.items c.push.new.self.items c.in-Some.member.now c.in_ok-to_data.field-0
    c.in-Some.ensures.steps c.in_ok-push.ensures.items c.in_ok-to_data.ensures.ok c.in_ok-to_data.ensures.kept
    c.loop-member.invariant
