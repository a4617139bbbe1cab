-- The names in the shapes of a table are texts.
use Rattle.std.proofs.Common.{◌≡◌, ℕ, zero, suc, ◌&&◌, Bool, true, refl, List, [], ◌∷◌, Option, None, Some}
use Rattle.std.proofs.lemmas.Bool.{and_from, and_parts, false≢true}
use Rattle.std.specs.List.{list_all}
use Rattle.std.specs.Prelude.{slice_get}
use Rattle.std.specs.Str.{is_utf8}
use Rattle.yaml_shape.specs.Held.{are_texts, is_named_content, is_table, is_table_shape}
use Rattle.yaml_shape.specs.PlainShape.{PlainShape, PlainVariant, fields_shape, enum_shape, of_struct, unnamed}
use Rattle.yaml_shape.specs.PlainShape.{of_variant, shape_at}
use Rattle.yaml_shape.specs.Validity.{names_of}
use Rattle.yaml_write.specs.InShape.{named_fields, named_variants}

-- what is there passes the test
abbrev pub is_fine : {A : Type 0} → (A → Bool) → Option A → Bool
is_fine test None = true
is_fine test (Some x) = test x

fine_at : {A : Type 0} (test : A → Bool) (xs : List A) (i : ℕ) → list_all test xs ≡ true
    → is_fine test (slice_get xs i) ≡ true
fine_at test [] i h = refl
fine_at test (x ∷ xs) zero h = (and_parts (test x) (list_all test xs) h).0
fine_at test (x ∷ xs) (suc i) h = fine_at test xs i (and_parts (test x) (list_all test xs) h).1

fields_named : (o : Option PlainShape) → is_fine is_table_shape o ≡ true → are_texts (names_of (named_fields o)) ≡ true
fields_named None h = refl
fields_named (Some (fields_shape strict (of_struct name) fields)) h = h
fields_named (Some (fields_shape strict unnamed fields)) h = absurd (false≢true h)
fields_named (Some (fields_shape strict (of_variant name variant) fields)) h = absurd (false≢true h)
fields_named (Some _) h = refl

-- the names of the fields of a shape are texts
pub field_names : (t : List PlainShape) (id : ℕ) → is_table t ≡ true
    → are_texts (names_of (named_fields (shape_at t id))) ≡ true
field_names t id h = fields_named (shape_at t id) (fine_at is_table_shape t id h)

-- the name of a variant is a text, and so are those in its content
abbrev pub is_named : List ℕ × PlainVariant → Bool
is_named v = is_utf8 v.0 && is_named_content v.1

each_named : (vs : List (List ℕ × PlainVariant)) → are_texts (names_of vs) ≡ true
    → list_all (λ v. is_named_content v.1) vs ≡ true → list_all is_named vs ≡ true
each_named [] h i = refl
each_named (v ∷ vs) h i =
    let p = and_parts (is_utf8 v.0) (are_texts (names_of vs)) h in
    let q = and_parts (is_named_content v.1) (list_all (λ v. is_named_content v.1) vs) i in
    and_from (is_named v) (list_all is_named vs) (and_from (is_utf8 v.0) (is_named_content v.1) p.0 q.0)
    (each_named vs p.1 q.1)

variants_named : (o : Option PlainShape) → is_fine is_table_shape o ≡ true
    → list_all is_named (named_variants o) ≡ true
variants_named None h = refl
variants_named (Some (enum_shape name vs)) h =
    let p = and_parts (are_texts (names_of vs)) (list_all (λ v. is_named_content v.1) vs) h in
    each_named vs p.0 p.1
variants_named (Some _) h = refl

-- so are those of a variant of a shape
pub variant_names : (t : List PlainShape) (id place : ℕ) → is_table t ≡ true
    → is_fine is_named (slice_get (named_variants (shape_at t id)) place) ≡ true
variant_names t id place h =
    fine_at is_named (named_variants (shape_at t id)) place
    (variants_named (shape_at t id) (fine_at is_table_shape t id h))
