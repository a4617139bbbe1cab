-- The variant here has the name, or is passed.
use Rattle.std.proofs.Common.{sym, ap, ◌∙◌}
use Rattle.std.specs.Prelude.{bytes_eq}
use Rattle.yaml_scalar.proofs.VariantCode.{found, passed}
use Rattle.yaml_scalar.proofs.variant_names.variant_named.Goals as goal

pub returns-then-eq : goal.returns-then-eq
returns-then-eq c =
    found _ _ _ _ c.loop-place-test.true c.loop-place.invariant _
    (ap (λ t. bytes_eq t c.args.name.now) (sym c.as_str.ensures.value) ∙ (sym c.if-eq.ensures))

pub loop-place-preserved : goal.loop-place-preserved
loop-place-preserved c =
    passed _ _ _ c.index-variants-place.result c.loop-place-test.true c.loop-place.invariant
    (ap (λ t. bytes_eq t c.args.name.now) (sym c.as_str.ensures.value) ∙ (sym c.if-eq.ensures))
