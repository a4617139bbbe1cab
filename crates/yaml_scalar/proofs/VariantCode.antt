-- The variants of an enum: as the code goes over them, and where one that was found stands.
use Rattle.std.proofs.Common.{◌≡◌, ℕ, zero, suc, ◌+◌, ◌<◌, List, [], ◌∷◌, length, get_or, Option, Some, None, Bool}
use Rattle.std.proofs.Common.{true, false, refl, ap, ◌∙◌, arith, All, String, string_bytes, if◌then◌else◌, IfSome}
use Rattle.std.specs.List.{flat_map}
use Rattle.std.specs.Prelude.{drop, slice_get, bytes_eq}
use Rattle.std.specs.Option.{option_map}
use Rattle.std.specs.declared.alloc.Global.{Global}
use Rattle.std.proofs.lemmas.List.{drop_more, get_or_default}
use Rattle.std.proofs.lemmas.Option.{MatchOption-at_some, get_or_from_slice_get, slice_get_within}
use Rattle.yaml_shape.specs.PlainShape.{PlainVariant}
use Rattle.yaml_shape.specs.ShapeView.{content_of, variants_of}
use Rattle.yaml_shape.specs.Validity.{named_in}
use Rattle.yaml_shape.specs.declared.shape.VariantShape.{VariantShape}
use Rattle.yaml_shape.proofs.NumberLaws.{All-from_flat_map}
use Rattle.yaml_meaning.specs.Variants.{Variants, variant_named}

-- the code's variants
abbrev pub Declared : Type 0
Declared = List (String Global × VariantShape)

-- a place that is one further, and one that is so far behind
abbrev one_further : Option (ℕ × PlainVariant) → Option (ℕ × PlainVariant)
one_further = option_map (λ x. (suc x.0, x.1))

abbrev pub behind_by : ℕ → Option (ℕ × PlainVariant) → Option (ℕ × PlainVariant)
behind_by n = option_map (λ x. (n + x.0, x.1))

behind_next : (n : ℕ) (o : Option (ℕ × PlainVariant)) → behind_by n (one_further o) ≡ behind_by (n + 1) o
behind_next n None = refl
behind_next n (Some x) = ap (λ (m : ℕ). Some (m, x.1)) (omega arith)

module _ (variants : Declared) (name : List ℕ) (place : ℕ) (d : String Global × VariantShape)
    (within : place < length variants)
    (before : variant_named (variants_of variants) name
    ≡ behind_by place (variant_named (variants_of (drop place variants)) name)) where
  -- a variant that has another name is passed
  pub passed : bytes_eq (string_bytes (get_or variants place d).0) name ≡ false
      → variant_named (variants_of variants) name
      ≡ behind_by (place + 1) (variant_named (variants_of (drop (place + 1) variants)) name)
  passed other =
      before ∙ rw (drop_more variants place d within, other)
      (behind_next place (variant_named (variants_of (drop (place + 1) variants)) name))

  -- a variant that has the name is found
  pub found : (e : String Global × VariantShape) → bytes_eq (string_bytes (get_or variants place d).0) name ≡ true
      → Some (place, content_of (get_or variants place e).1) ≡ variant_named (variants_of variants) name
  found e same =
      rw (before, drop_more variants place d within, same, get_or_default variants place e d within)
      (ap (λ (m : ℕ). Some (m, content_of (get_or variants place d).1)) (omega arith))

-- ---- a variant that was found
-- it stands in its place
abbrev StandsIn : Variants → ℕ × PlainVariant → Type 0
StandsIn variants v = (name : List ℕ) × (slice_get variants v.0 ≡ Some (name, v.1))

stands : (variants : Variants) (name : List ℕ) → IfSome (variant_named variants name) (StandsIn variants)
stands [] name = tt
stands (x ∷ xs) name = chosen (bytes_eq x.0 name) (variant_named xs name) (stands xs name)
  where
    chosen : (b : Bool) (o : Option (ℕ × PlainVariant)) → IfSome o (StandsIn xs)
        → IfSome (if b then Some (zero, x.1) else one_further o) (StandsIn (x ∷ xs))
    chosen true o h = (x.0, refl)
    chosen false None h = tt
    chosen false (Some u) h = h

pub variant_at : (variants : Variants) (name : List ℕ) (v : ℕ × PlainVariant) → variant_named variants name ≡ Some v
    → StandsIn variants v
variant_at variants name v is = MatchOption-at_some _ (StandsIn variants) v is (stands variants name)

-- what all numbers of an enum meet, those of each of its variants meet
pub content_all : (P : ℕ → Type 0) (variants : Variants) (name : List ℕ) (v : ℕ × PlainVariant)
    → variant_named variants name ≡ Some v → All P (flat_map (λ v. named_in v.1) variants) → All P (named_in v.1)
content_all P variants name v is a =
    let at = variant_at variants name v is in
    let within = slice_get_within variants v.0 (at.0, v.1) at.1 in
    rw (get_or_from_slice_get variants v.0 (at.0, v.1) (at.0, v.1) at.1)
    at (All-from_flat_map P (λ v. named_in v.1) variants a v.0 (at.0, v.1) within)
