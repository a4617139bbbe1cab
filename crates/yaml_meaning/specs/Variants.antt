-- The variants of an enum: which of them a name tells, and what a scalar that names one gives.
use Rattle.std.specs.Prelude.{ℕ, zero, suc, List, [], ◌∷◌, Option, Some, None, Result, Ok, Err, bytes_eq, if◌then◌else◌}
use Rattle.std.specs.Prelude.{codes}
use Rattle.std.specs.Option.{option_map, option_map_or}
use Rattle.yaml_base.specs.declared.found.Found.TheVariants as found
use Rattle.yaml_shape.specs.PlainData.{PlainData, unit_data, variant_data}
use Rattle.yaml_shape.specs.PlainShape.{PlainVariant, unit_variant, newtype_variant, tuple_variant, struct_variant}
use Rattle.yaml_shape.specs.Validity.{names_of}
use Rattle.yaml_meaning.specs.ReadFault.{ReadFault, at_node}
use Rattle.yaml_meaning.specs.ReadFault as fault
use Rattle.yaml_meaning.specs.ScalarFound.{wrong_type}

-- the variants that an enum declares: their names, and what they hold
abbrev pub Variants : Type 0
Variants = List (List ℕ × PlainVariant)

-- the place of the variant with a name, and what it holds
abbrev pub variant_named : Variants → List ℕ → Option (ℕ × PlainVariant)
variant_named [] name = None
variant_named (v ∷ vs) name =
    if bytes_eq v.0 name then Some (zero, v.1) else option_map (λ x. (suc x.0, x.1)) (variant_named vs name)

-- the fault of a name that no variant has
abbrev pub unknown_variant : Variants → (name : List ℕ) → ReadFault
unknown_variant variants name = at_node (fault.unknown_variant name (names_of variants)) None

-- the variant in a place, named without a content
abbrev pub bare_variant : (place : ℕ) → PlainVariant → Result PlainData ReadFault
bare_variant place unit_variant = Ok (variant_data place unit_data)
bare_variant place (newtype_variant inner) = Err (wrong_type found.UnitVariant (codes "newtype variant"))
bare_variant place (tuple_variant items) = Err (wrong_type found.UnitVariant (codes "tuple variant"))
bare_variant place (struct_variant strict fields) = Err (wrong_type found.UnitVariant (codes "struct variant"))

-- what a name gives that stands alone
abbrev pub named_variant : Variants → (name : List ℕ) → Result PlainData ReadFault
named_variant variants name =
    option_map_or (λ v. bare_variant v.0 v.1) (variant_named variants name) (Err (unknown_variant variants name))
