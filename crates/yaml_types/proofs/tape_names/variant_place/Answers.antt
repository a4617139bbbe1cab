-- The variant here has the name, or is passed.
use Rattle.std.proofs.Common.{sym, ap, ◌∙◌, string_bytes}
use Rattle.std.specs.Prelude.{bytes_eq}
use Rattle.yaml_types.proofs.NameReads.{name_found, name_passed}
use Rattle.yaml_types.proofs.tape_names.variant_place.Goals as goal

pub returns-then-eq : goal.returns-then-eq
returns-then-eq c =
    name_found (λ n. string_bytes n.0) _ _ _ _ c.loop-place-test.true c.loop-place.invariant
    (ap (λ t. bytes_eq t c.args.text.now) (sym c.as_str.ensures.value) ∙ (sym c.if-eq.ensures))

pub loop-place-preserved : goal.loop-place-preserved
loop-place-preserved c =
    name_passed (λ n. string_bytes n.0) _ _ _ c.index-names-place.result c.loop-place-test.true c.loop-place.invariant
    (ap (λ t. bytes_eq t c.args.text.now) (sym c.as_str.ensures.value) ∙ (sym c.if-eq.ensures))
