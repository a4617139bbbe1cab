-- No variant so far has the name.
use Rattle.std.proofs.Common.{◌≡◌}
use Rattle.std.specs.Prelude.{drop}
use Rattle.yaml_shape.specs.ShapeView.{variants_of}
use Rattle.yaml_meaning.specs.Variants.{variant_named}
use Rattle.yaml_scalar.proofs.VariantCode.{behind_by}
use Rattle.yaml_scalar.proofs.variant_names.variant_named.Given as goal

abbrev pub invariant-loop-place : goal.invariant-loop-place
invariant-loop-place l =
    variant_named (variants_of l.variants) l.name
    ≡ behind_by l.place (variant_named (variants_of (drop l.place l.variants)) l.name)
