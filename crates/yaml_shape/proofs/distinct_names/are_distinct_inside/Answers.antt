-- The names inside each variant.
use Rattle.std.proofs.Common.{take, refl, sym}
use Rattle.std.proofs.lemmas.List.{take_all}
use Rattle.std.proofs.lemmas.List.Elements.{All-more, All-same}
use Rattle.yaml_shape.specs.ShapeView.{content_of}
use Rattle.yaml_shape.specs.Validity.{IsDistinctInside}
use Rattle.yaml_shape.proofs.distinct_names.are_distinct_inside.Goals as goal

pub loop-i-preserved : goal.loop-i-preserved
loop-i-preserved c =
    All-more (λ v. IsDistinctInside (content_of v.1)) c.args.variants.now c.loop-i.i
    (c.index-variants-i.result) c.loop-i-test.true c.loop-i.invariant
    (c.in_ok-is_distinct_inside.ensures.0 c.if-not-branch.false)

pub returns : goal.returns
returns c = (
  λ _. All-same (λ v. IsDistinctInside (content_of v.1)) c.args.variants.now (take c.loop-i.i c.args.variants.now)
      (sym (take_all c.loop-i.i c.args.variants.now c.loop-i-test.false)) c.loop-i.invariant,
  λ _. refl,
)
