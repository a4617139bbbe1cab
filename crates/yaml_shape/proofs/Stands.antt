-- The tables that are joined stand in the join.
use Rattle.std.proofs.Common.{◌≡◌, ◌<◌, ◌+◌, ℕ, List, [], ◌∷◌, ◌++◌, map, length, Option, Some, None, refl, sym}
use Rattle.std.proofs.Common.{◌∙◌, ap, subst, All, arith, append_assoc, append-nil}
use Rattle.std.specs.Prelude.{slice_get, option_map}
use Rattle.std.proofs.lemmas.List.Elements.{All-head, All-tail}
use Rattle.std.proofs.lemmas.Option.{slice_get_within, slice_get-get_or}
use Rattle.yaml_shape.specs.PlainShape.{PlainShape, option_shape, newtype_shape, seq_shape, row_shape, map_shape}
use Rattle.yaml_shape.specs.PlainShape.{fields_shape, enum_shape, shape_at, PlainVariant, unit_variant, newtype_variant}
use Rattle.yaml_shape.specs.PlainShape.{tuple_variant, struct_variant}
use Rattle.yaml_shape.specs.Validity.{AllNameWithin, IsValidSchema}
use Rattle.yaml_shape.specs.Join.{raised_ids, raised_fields, raised_content, raised_variants, raised, joined_tables}
use Rattle.yaml_shape.specs.Join.{joined_all}
use Rattle.yaml_shape.specs.Kept.{IsRaisedIn, KeepsShapes, KeepsAllShapes}
use Rattle.yaml_shape.proofs.JoinLaws.{at_left}
use Rattle.yaml_shape.proofs.JoinWalks.{at_joined}
use Rattle.yaml_shape.proofs.JoinData.{keeps}
use Rattle.yaml_shape.proofs.PartLaws.{length-joined_tables}

same_sum : (n : ℕ) → 0 + n ≡ n
same_sum n = omega arith

ids_zero : (ids : List ℕ) → raised_ids 0 ids ≡ ids
ids_zero [] = refl
ids_zero (id ∷ ids) = ap (λ n. n ∷ raised_ids 0 ids) (same_sum id) ∙ ap (λ l. id ∷ l) (ids_zero ids)

fields_zero : (fields : List (List ℕ × ℕ)) → raised_fields 0 fields ≡ fields
fields_zero [] = refl
fields_zero (f ∷ fs) = ap (λ n. (f.0, n) ∷ raised_fields 0 fs) (same_sum f.1) ∙ ap (λ l. f ∷ l) (fields_zero fs)

content_zero : (content : PlainVariant) → raised_content 0 content ≡ content
content_zero unit_variant = refl
content_zero (newtype_variant inner) = ap newtype_variant (same_sum inner)
content_zero (tuple_variant items) = ap tuple_variant (ids_zero items)
content_zero (struct_variant strict fields) = ap (struct_variant strict) (fields_zero fields)

variants_zero : (variants : List (List ℕ × PlainVariant)) → raised_variants 0 variants ≡ variants
variants_zero [] = refl
variants_zero (v ∷ vs) = ap (λ c. (v.0, c) ∷ raised_variants 0 vs) (content_zero v.1)
    ∙ ap (λ l. v ∷ l) (variants_zero vs)

-- nothing is raised by nothing
raised_zero : (s : PlainShape) → raised 0 s ≡ s
raised_zero (option_shape content) = ap option_shape (same_sum content)
raised_zero (newtype_shape name inner) = ap (newtype_shape name) (same_sum inner)
raised_zero (seq_shape element) = ap seq_shape (same_sum element)
raised_zero (row_shape owner items) = ap (row_shape owner) (ids_zero items)
raised_zero (map_shape key value) = ap (λ k. map_shape k (0 + value)) (same_sum key)
    ∙ ap (map_shape key) (same_sum value)
raised_zero (fields_shape strict owner fields) = ap (fields_shape strict owner) (fields_zero fields)
raised_zero (enum_shape name variants) = ap (enum_shape name) (variants_zero variants)
raised_zero _ = refl

option_zero : (o : Option PlainShape) → option_map (raised 0) o ≡ o
option_zero None = refl
option_zero (Some s) = ap Some (raised_zero s)

-- a table stands in a longer one that begins with it
pub stands_first : (part back : List PlainShape) → IsRaisedIn 0 part (part ++ back)
stands_first part back id within
    = ap (shape_at (part ++ back)) (same_sum id)
    ∙ (at_left part back id within ∙ sym (option_zero (shape_at part id)))

-- what stands in a table stands in a longer one
stands_longer : (by : ℕ) (part whole back : List PlainShape) → IsRaisedIn by part whole
    → IsRaisedIn by part (whole ++ back)
stands_longer by part whole back stands id within = at_left whole back (by + id) inside ∙ stands id within
  where
    some : (o : Option PlainShape) → (s : PlainShape) → o ≡ Some s → option_map (raised by) o ≡ Some (raised by s)
    some o s e = ap (option_map (raised by)) e

    first : (xs : List PlainShape) → id < length xs → (s : PlainShape) × (slice_get xs id ≡ Some s)
    first [] h = absurd (omega arith)
    first (x ∷ xs) h = (_, slice_get-get_or (x ∷ xs) id x h)

    inside : by + id < length whole
    inside =
        let there = first part within in
        slice_get_within whole (by + id) (raised by there.0) (stands id within
        ∙ some (shape_at part id) there.0 there.1)

-- the first of two tables, and the second
pub keeps_first : (part back : List PlainShape) → IsValidSchema part → KeepsShapes 0 part (part ++ back)
keeps_first part back valid = keeps 0 part (part ++ back) (stands_first part back) valid.closed

pub keeps_left : (first second back : List PlainShape) → IsValidSchema first
    → KeepsShapes 0 first (joined_tables first second ++ back)
keeps_left first second back valid =
    keeps 0 first (joined_tables first second ++ back) (stands_longer 0 first (joined_tables first second) back
    (stands_first first (map (raised (length first)) second))) valid.closed

pub keeps_right : (first second back : List PlainShape) → IsValidSchema second
    → KeepsShapes (length first) second (joined_tables first second ++ back)
keeps_right first second back valid =
    keeps (length first) second (joined_tables first second ++ back)
    (stands_longer (length first) second (joined_tables first second) back (λ id within. at_joined first second id))
    valid.closed

-- a join begins with its first table
pub begins : (first : List PlainShape) (parts : List (List PlainShape × ℕ))
    → (more : List PlainShape) × (joined_all first parts ≡ first ++ more)
begins first [] = ([], sym (append-nil first))
begins first (part ∷ parts) =
    let rest = begins (joined_tables first part.0) parts in (
      map (raised (length first)) part.0 ++ rest.0,
      rest.1
          ∙ append_assoc first (map (raised (length first)) part.0) rest.0,
    )

-- each part of a join
pub keeps_all : (first : List PlainShape) (parts : List (List PlainShape × ℕ)) (back : List PlainShape)
    → All (λ p. AllNameWithin (length p.0) p.0) parts
    → KeepsAllShapes (length first) parts (joined_all first parts ++ back)
keeps_all first [] back closed = tt
keeps_all first (part ∷ parts) back closed =
    let rest = begins (joined_tables first part.0) parts in
    let whole : joined_all (joined_tables first part.0) parts ++ back ≡ joined_tables first part.0 ++ (rest.0 ++ back) =
    ap (λ l. l ++ back) rest.1 ∙ append_assoc (joined_tables first part.0) rest.0 back in (
      subst (KeepsShapes (length first) part.0) (sym whole)
          (keeps (length first) part.0 (joined_tables first part.0 ++ (rest.0 ++ back))
          (stands_longer (length first) part.0 (joined_tables first part.0) (rest.0 ++ back)
          (λ id within. at_joined first part.0 id))
          (All-head (λ p. AllNameWithin (length p.0) p.0) part parts closed)),
      subst (λ n. KeepsAllShapes n parts (joined_all (joined_tables first part.0) parts ++ back))
          (length-joined_tables first part.0)
          (keeps_all (joined_tables first part.0) parts back
          (All-tail (λ p. AllNameWithin (length p.0) p.0) part parts closed)),
    )
