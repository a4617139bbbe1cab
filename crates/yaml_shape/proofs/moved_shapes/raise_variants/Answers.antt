-- The raising of variants.
use Rattle.std.proofs.Common.{◌<◌, All, ap, ◌∙◌, string_bytes, arith}
use Rattle.yaml_shape.specs.Join.{raised_content}
use Rattle.yaml_shape.specs.ShapeView.{variant_of, content_of}
use Rattle.yaml_shape.specs.Validity.{named_in}
use Rattle.yaml_shape.proofs.RaiseLaws.{one_raised, as_before}
use Rattle.yaml_shape.proofs.moved_shapes.raise_variants.Goals as goal

pub raise_content-requires-clause-small : goal.raise_content-requires-clause-small
raise_content-requires-clause-small c =
    as_before variant_of (λ v. (v.0, raised_content c.args.by v.1))
    (λ v. All (λ id. id < 4096) (named_in (content_of v.1)))
    c.args.variants.now.items c.loop-i.variants.items c.loop-i.i c.index_mut.result.now
    (omega arith) c.loop-i.invariant c.index_mut.ensures.value c.requires.small

pub loop-i-preserved : goal.loop-i-preserved
loop-i-preserved c =
    one_raised variant_of (λ v. (v.0, raised_content c.args.by v.1)) c.args.variants.now.items c.loop-i.variants.items
    c.loop-i.i c.index_mut.result.now _
    (omega arith) c.loop-i.invariant
    (ap (λ n. (string_bytes c.index_mut.result.now.0, n)) c.raise_content.ensures
    ∙ ap (λ v. (string_bytes v.0, raised_content c.args.by (content_of v.1))) c.index_mut.ensures.value)
