-- Each value is put in its turn.
use Rattle.std.proofs.Common.{◌+◌, drop, rules}
use Rattle.yaml_types.proofs.NodeLaws.{next_of, element_put, element_refused}
use Rattle.yaml_types.proofs.impls.list.put_elements.Goals as goal

pub loop-value-preserved : goal.loop-value-preserved
loop-value-preserved g c =
    element_put c.args.schema.now c.args.id.0 g.T.Serialize.written g.T.Serialize.kept c.args.values.now
    (drop c.loop-value.value-index c.args.values.now) (drop (c.loop-value.value-index + 1) c.args.values.now)
    c.value-item.result c.args.out.now c.loop-value.out c.write_node.new.out
    (next_of c.args.values.now c.loop-value.value-index c.value-item.result c.loop-value-test.true c.value-item.is)
    c.in_ok-write_node.ensures.put c.in_ok-write_node.ensures.kept c.in_ok-write_node.ensures.held
    c.loop-value.invariant

pub returns-in_err-write_node-clause-refused : goal.returns-in_err-write_node-clause-refused
returns-in_err-write_node-clause-refused g c =
    let told = element_refused c.args.schema.now c.args.id.0 g.T.Serialize.written g.T.Serialize.kept
    g.T.Serialize.unwritten c.args.values.now
    (drop c.loop-value.value-index c.args.values.now) (drop (c.loop-value.value-index + 1) c.args.values.now)
    c.value-item.result c.args.out.now c.loop-value.out c.in_err-write_node.field-0.0
    (next_of c.args.values.now c.loop-value.value-index c.value-item.result c.loop-value-test.true c.value-item.is)
    c.in_err-write_node.ensures.refused c.loop-value.invariant in
    search (rules, told)
