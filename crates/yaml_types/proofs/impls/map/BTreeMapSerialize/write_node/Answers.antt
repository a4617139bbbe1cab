-- The pairs stand between the start of a mapping and its end.
use Rattle.std.proofs.Common.{◌≡◌, ◌∙◌, ap}
use Rattle.yaml_shape.specs.PlainShape.{shape_at}
use Rattle.yaml_write.specs.InShape.{key_shape, value_shape}
use Rattle.yaml_types.specs.WrittenParts.{pairs_written}
use Rattle.yaml_types.proofs.NodeLaws.{mapping_put}
use Rattle.yaml_types.proofs.impls.map.BTreeMapSerialize.write_node.Goals as goal

pub returns-clause-put : goal.returns-clause-put
returns-clause-put g c =
    let shape = shape_at c.args.schema.now c.args.id.0 in
    let keys : c.key_shape.result.0 ≡ key_shape shape = c.key_shape.ensures
    ∙ ap key_shape c.shape-shape.ensures.found in
    let values : c.value_shape.result.0 ≡ value_shape shape =
    c.value_shape.ensures ∙ ap value_shape c.shape-shape.ensures.found in
    mapping_put c.args.schema.now c.key_shape.result.0 (key_shape shape) c.value_shape.result.0 (value_shape shape)
    (pairs_written g.K.Serialize.written g.V.Serialize.written c.args.self.now.entries)
    c.args.out.now c.start_mapping.new.self c.put_entries.new.out c.end_mapping.new.self keys values
    c.in_ok-start_mapping.ensures.added c.in_ok-put_entries.ensures.put c.in_ok-end_mapping.ensures.added
