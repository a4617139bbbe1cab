-- The variant that the code finds, as plain data.
use Rattle.std.specs.Prelude.{ℕ, Option}
use Rattle.std.specs.Option.{option_map}
use denote.Ref.{Bor}
use Rattle.yaml_shape.specs.PlainShape.{PlainVariant}
use Rattle.yaml_shape.specs.ShapeView.{content_of}
use Rattle.yaml_shape.specs.declared.shape.VariantShape.{VariantShape}

-- the place of a variant, and what it holds
abbrev pub variant_view : Option (ℕ × Bor VariantShape) → Option (ℕ × PlainVariant)
variant_view = option_map (λ v. (v.0, content_of v.1.now))
