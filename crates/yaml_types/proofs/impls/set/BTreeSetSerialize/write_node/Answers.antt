-- The members stand between the start of a sequence and its end.
use Rattle.std.proofs.Common.{◌≡◌, ◌∙◌, ap, map}
use Rattle.yaml_shape.specs.DataView.{items_of}
use Rattle.yaml_shape.specs.PlainShape.{shape_at}
use Rattle.yaml_write.specs.InShape.{element_shape}
use Rattle.yaml_types.proofs.NodeLaws.{sequence_put}
use Rattle.yaml_types.proofs.impls.set.BTreeSetSerialize.write_node.Goals as goal

pub returns-clause-put : goal.returns-clause-put
returns-clause-put g c =
    let shape = shape_at c.args.schema.now c.args.id.0 in
    let elements : c.element_shape-element.result.0 ≡ element_shape shape =
    c.element_shape-element.ensures ∙ ap element_shape c.shape.ensures.found in
    sequence_put c.args.schema.now c.element_shape-element.result.0 (element_shape shape)
    (items_of (map g.T.Serialize.written c.args.self.now.keys))
    c.args.out.now c.start_sequence.new.self c.put_members.new.out c.end_sequence.new.self elements
    c.in_ok-start_sequence.ensures.added c.in_ok-put_members.ensures.put c.in_ok-end_sequence.ensures.added
