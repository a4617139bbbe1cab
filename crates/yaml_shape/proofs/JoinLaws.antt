-- Joined tables of valid tables are valid.
use Rattle.std.proofs.Common.{◌≡◌, ◌<◌, ◌+◌, ℕ, zero, suc, List, [], ◌∷◌, ◌++◌}
use Rattle.std.proofs.Common.{length, Option, Some, None, refl, sym, ◌∙◌, ap, subst, arith}
use Rattle.std.specs.Prelude.{slice_get}
use Rattle.std.specs.List.{flat_map}
use Rattle.std.specs.Option.{option_and_then}
use Rattle.std.proofs.lemmas.List.{map-append}
use Rattle.std.proofs.lemmas.List.Elements.{All-map, All-weaker}
use Rattle.std.proofs.lemmas.Option.{slice_get_within, get_or_from_slice_get}
use Rattle.yaml_shape.specs.PlainShape.{PlainShape, option_shape, fields_shape, enum_shape, shape_at, PlainVariant}
use Rattle.yaml_shape.specs.PlainShape.{unit_variant, newtype_variant, tuple_variant, struct_variant}
use Rattle.yaml_shape.specs.Validity.{names_of, numbers_of, named_in, named, NamesWithin, AllNameWithin, AreDistinct}
use Rattle.yaml_shape.specs.Validity.{IsDistinctInside, HasDistinctNames}
use Rattle.yaml_shape.specs.Validity.{optional_content, step_from}
use Rattle.yaml_shape.specs.Join.{raised_ids, raised_fields, raised_content, raised_variants, raised}

-- the first list's part of two lists in a row
pub at_left : {X : Type 0} (xs ys : List X) (i : ℕ) → i < length xs → slice_get (xs ++ ys) i ≡ slice_get xs i
at_left [] ys i within = absurd (omega arith)
at_left (x ∷ xs) ys zero within = refl
at_left (x ∷ xs) ys (suc i) within = at_left xs ys i (omega arith)

-- the second list's part of two lists in a row
pub at_right : {X : Type 0} (xs ys : List X) (i : ℕ) → slice_get (xs ++ ys) (length xs + i) ≡ slice_get ys i
at_right [] ys i = ap (slice_get ys) (let e : 0 + i ≡ i = omega arith in e)
at_right (x ∷ xs) ys i =
    let e : suc (length xs) + i ≡ suc (length xs + i) = omega arith in
    rw e (at_right xs ys i)

-- the numbers of raised fields
pub numbers-raised : (by : ℕ) (fields : List (List ℕ × ℕ))
    → numbers_of (raised_fields by fields) ≡ raised_ids by (numbers_of fields)
numbers-raised by [] = refl
numbers-raised by (f ∷ fs) = ap (λ ns. (by + f.1) ∷ ns) (numbers-raised by fs)

-- the names of raised fields
names-raised : (by : ℕ) (fields : List (List ℕ × ℕ)) → names_of (raised_fields by fields) ≡ names_of fields
names-raised by [] = refl
names-raised by (f ∷ fs) = ap (λ ns. f.0 ∷ ns) (names-raised by fs)

-- the names of raised variants
variants-raised : (by : ℕ) (variants : List (List ℕ × PlainVariant))
    → names_of (raised_variants by variants) ≡ names_of variants
variants-raised by [] = refl
variants-raised by (v ∷ vs) = ap (λ ns. v.0 ∷ ns) (variants-raised by vs)

named_in-raised : (by : ℕ) (content : PlainVariant) → named_in (raised_content by content) ≡ raised_ids by (named_in
    content)
named_in-raised by unit_variant = refl
named_in-raised by (newtype_variant inner) = refl
named_in-raised by (tuple_variant items) = refl
named_in-raised by (struct_variant strict fields) = numbers-raised by fields

named_each-raised : (by : ℕ) (variants : List (List ℕ × PlainVariant)) → flat_map (λ v. named_in
    v.1) (raised_variants by variants) ≡ raised_ids by (flat_map (λ v. named_in v.1) variants)
named_each-raised by [] = refl
named_each-raised by (v ∷ vs) =
    ap (λ ns. ns ++ flat_map (λ v. named_in v.1) (raised_variants by vs)) (named_in-raised by v.1)
    ∙ (ap (λ ns. raised_ids by (named_in v.1) ++ ns) (named_each-raised by vs)
    ∙ sym (map-append (λ id. by + id) (named_in v.1) (flat_map (λ v. named_in v.1) vs)))

-- the numbers that a raised shape names are those of the shape, raised
pub named-raised : (by : ℕ) (shape : PlainShape) → named (raised by shape) ≡ raised_ids by (named shape)
named-raised by (fields_shape strict owner fields) = numbers-raised by fields
named-raised by (enum_shape name variants) = named_each-raised by variants
named-raised by _ = refl

distinct_inside-raised : (by : ℕ) (content : PlainVariant) → IsDistinctInside content
    → IsDistinctInside (raised_content by content)
distinct_inside-raised by unit_variant h = tt
distinct_inside-raised by (newtype_variant inner) h = tt
distinct_inside-raised by (tuple_variant items) h = tt
distinct_inside-raised by (struct_variant strict fields) h = subst AreDistinct (sym (names-raised by fields)) h

-- a raised shape has distinct names where the shape has
pub distinct-raised : (by : ℕ) (shape : PlainShape) → HasDistinctNames shape → HasDistinctNames (raised by shape)
distinct-raised by (fields_shape strict owner fields) h = subst AreDistinct (sym (names-raised by fields)) h
distinct-raised by (enum_shape name variants) h = (
  subst AreDistinct (sym (variants-raised by variants)) h.0,
  All-map (λ v. IsDistinctInside v.1) (λ v. (v.0, raised_content by v.1)) variants
      (All-weaker (λ v. IsDistinctInside v.1) (λ v. IsDistinctInside (raised_content by v.1))
      (λ v d. distinct_inside-raised by v.1 d) variants h.1),
)
distinct-raised by _ h = tt

-- a shape of a table names only its numbers
pub names_at : (size : ℕ) (shapes : List PlainShape) (id : ℕ) (shape : PlainShape) → AllNameWithin
    size shapes → shape_at shapes id ≡ Some shape → NamesWithin size shape
names_at size shapes id shape closed here =
    subst (NamesWithin size) (get_or_from_slice_get shapes id shape shape here) (closed id shape (slice_get_within
    shapes id shape here))

-- a step from a shape of a table leads into it
pub step_inside : (shapes : List PlainShape) (id next : ℕ) → AllNameWithin (length shapes) shapes
    → step_from shapes id ≡ Some next → next < length shapes
step_inside shapes id next closed step = by_shape (shape_at shapes id) refl step
  where
    by_content : (shape : PlainShape) → NamesWithin (length shapes) shape → optional_content shape ≡ Some next
        → next < length shapes
    by_content (option_shape content) within e = let same : content ≡ next = cc in
        subst (λ n. n < length shapes) same (within 0 0 (omega arith))
    by_content _ within e = absurd (cc)

    by_shape : (o : Option PlainShape) → shape_at shapes id ≡ o → option_and_then optional_content o ≡ Some next
        → next < length shapes
    by_shape None here e = absurd (cc)
    by_shape (Some shape) here e = by_content shape (names_at (length shapes) shapes id shape closed here) e
