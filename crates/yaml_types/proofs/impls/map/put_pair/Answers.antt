-- A key is put, and then its value.
use Rattle.yaml_types.specs.NodeWrites.{written_node}
use Rattle.yaml_types.proofs.NodeLaws.{both_put, both_refused}
use Rattle.yaml_types.proofs.impls.map.put_pair.Goals as goal

pub returns-clause-put : goal.returns-clause-put
returns-clause-put g c =
    both_put (written_node c.args.schema.now c.args.ids.0.0 (g.K.Serialize.written c.args.key.now))
    (written_node c.args.schema.now c.args.ids.1.0 (g.V.Serialize.written c.args.value.now)) c.args.out.now
    c.write_node.new.out c.write_node-2.new.out c.write_node-2.result c.in_ok-write_node.ensures.put
    c.write_node-2.ensures.put

pub returns-clause-refused : goal.returns-clause-refused
returns-clause-refused g c =
    both_refused (written_node c.args.schema.now c.args.ids.0.0 (g.K.Serialize.written c.args.key.now))
    (written_node c.args.schema.now c.args.ids.1.0 (g.V.Serialize.written c.args.value.now)) c.args.out.now
    c.write_node.new.out (g.K.Serialize.unwritten c.args.key.now) (g.V.Serialize.unwritten c.args.value.now)
    c.write_node-2.result c.in_ok-write_node.ensures.put c.write_node-2.ensures.refused
