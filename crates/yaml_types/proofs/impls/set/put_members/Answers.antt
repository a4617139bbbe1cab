-- Each member is put in its turn.
use Rattle.std.proofs.Common.{rules}
use Rattle.yaml_types.proofs.NodeLaws.{element_put, element_refused}
use Rattle.yaml_types.proofs.impls.set.put_members.Goals as goal

pub loop-member-preserved : goal.loop-member-preserved
loop-member-preserved g c =
    element_put c.args.schema.now c.args.id.0 g.T.Serialize.written g.T.Serialize.kept c.args.members.now.keys
    c.loop-member.member-iterator c.next.new.self c.in-Some.member.now c.args.out.now c.loop-member.out
    c.write_node.new.out c.in-Some.ensures.steps
    c.in_ok-write_node.ensures.put c.in_ok-write_node.ensures.kept c.in_ok-write_node.ensures.held
    c.loop-member.invariant

pub returns-in_err-write_node-clause-refused : goal.returns-in_err-write_node-clause-refused
returns-in_err-write_node-clause-refused g c =
    let told = element_refused c.args.schema.now c.args.id.0 g.T.Serialize.written g.T.Serialize.kept
    g.T.Serialize.unwritten c.args.members.now.keys
    c.loop-member.member-iterator c.next.new.self c.in-Some.member.now c.args.out.now c.loop-member.out
    c.in_err-write_node.field-0.0 c.in-Some.ensures.steps c.in_err-write_node.ensures.refused c.loop-member.invariant in
    search (rules, told)
