-- The raising of fields.
use Rattle.std.proofs.Common.{◌≡◌, ◌+◌, ◌<◌, ap, ◌∙◌, string_bytes, arith}
use Rattle.yaml_shape.specs.ShapeView.{field_of}
use Rattle.yaml_shape.proofs.RaiseLaws.{one_raised, as_before, same_read}
use Rattle.yaml_shape.proofs.moved_shapes.raise_fields.Goals as goal

pub raised_id-requires-clause-small : goal.raised_id-requires-clause-small
raised_id-requires-clause-small c =
    as_before field_of (λ f. (f.0, c.args.by + f.1))
    (λ f. f.1.0 < 4096) c.args.fields.now.items c.loop-i.fields.items c.loop-i.i c.index.result.now
    (omega arith) c.loop-i.invariant c.index.ensures c.requires.small

pub loop-i-preserved : goal.loop-i-preserved
loop-i-preserved c =
    let same : c.index.result.now ≡ c.index_mut.result.now =
    same_read c.loop-i.fields.items c.loop-i.i c.index.result.now c.index_mut.result.now
    (omega arith) c.index.ensures c.index_mut.ensures.value in
    one_raised field_of (λ f. (f.0, c.args.by + f.1)) c.args.fields.now.items c.loop-i.fields.items c.loop-i.i
    c.index_mut.result.now _
    (omega arith) c.loop-i.invariant
    (ap (λ n. (string_bytes c.index_mut.result.now.0, n)) (c.raised_id.ensures ∙ ap (λ f. c.args.by + f.1.0) same)
    ∙ ap (λ f. (string_bytes f.0, c.args.by + f.1.0)) c.index_mut.ensures.value)
