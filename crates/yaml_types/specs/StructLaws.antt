-- Data is of the shape of a struct just where its fields are of their types; and the shapes of rows are closed.
use Rattle.std.proofs.Common.{◌≡◌, ◌≢◌, ◌<◌, ◌+◌, ℕ, List, [], ◌∷◌, length, Bool, true, not, ◌∙◌, sym}
use Rattle.std.proofs.Common.{ap, subst, All, arith}
use Rattle.std.specs.Prelude.{bytes_eq}
use Rattle.std.proofs.lemmas.List.Elements.{All-nil, All-cons, All-weaker}
use Rattle.std.proofs.lemmas.List.Kept.{AllPairs-cons}
use Rattle.std.proofs.lemmas.Slice.Eq.{bytes_eq-Decides}
use Rattle.std.proofs.lemmas.Slice.Zip.{firsts-zip, seconds-zip}
use Rattle.yaml_tree.specs.TakeOut.{from_false, and_left, and_right}
use Rattle.yaml_shape.specs.PlainShape.{PlainShape, fields_shape, of_struct}
use Rattle.yaml_shape.specs.PlainData.{PlainItems, struct_data, tuple_data}
use Rattle.yaml_shape.specs.Validity.{numbers_of, NamesWithin, AllNameWithin, AreDistinct, HasDistinctNames}
use Rattle.yaml_shape.specs.HasShape.{on_struct, has_shape, each_has}
use Rattle.yaml_shape.specs.Join.{joined_tables, joined_all, starts_behind, named_behind}
use Rattle.yaml_shape.proofs.PartLaws.{starts_inside, length-starts, length-joined_tables}
use Rattle.yaml_shape.proofs.RowShapes.{numbers_inside}
use Rattle.yaml_shape.proofs.Stands.{keeps_all}
use Rattle.yaml_types.specs.Start.{Start, IsClosed, tuple_start}
use Rattle.yaml_types.specs.StartLaws.{closed_with, closed_all, all_within}
use Rattle.yaml_types.specs.ShapeLaws.{at_last, parts_have, tuple_start_has}
use Rattle.yaml_types.specs.PartShapes.{items_match}
use Rattle.yaml_types.specs.Rows.{total, struct_start, is_apart, all_distinct}

-- no types
pub no_row_closed : All IsClosed []
no_row_closed = All-nil IsClosed

-- a type and others
pub row_closed : (s : Start) (ss : List Start) → IsClosed s → All IsClosed ss → All IsClosed (s ∷ ss)
row_closed s ss h hs = All-cons IsClosed s ss h hs

-- structs of a row of types
pub closed_struct : (strict : Bool) (name : List ℕ) (names : List (List ℕ)) (parts : List Start) → All IsClosed parts
    → IsClosed (struct_start strict name names parts)
closed_struct strict name names parts c =
    closed_with (joined_all [] parts) (fields_shape strict (of_struct name) (named_behind 0 names parts))
    (closed_all [] parts (All-nil (NamesWithin 0)) c)
    (numbers_inside (λ id. id < length (joined_all [] parts)) names (starts_behind 0 parts)
    (starts_inside [] parts (all_within parts c)))

-- the numbers of the fields are where their types start
pub numbers_named : (names : List (List ℕ)) (parts : List Start) → length names ≡ length parts
    → numbers_of (named_behind 0 names parts) ≡ starts_behind 0 parts
numbers_named names parts same =
    seconds-zip names (starts_behind 0 parts) (length-starts 0 parts ∙ sym same)

-- a struct
pub struct_start_has : (strict : Bool) (name : List ℕ) (names : List (List ℕ)) (parts : List Start)
    → length names ≡ length parts → All IsClosed parts → (ds : PlainItems)
    → has_shape (struct_start strict name names parts).0 (struct_start strict name names parts).1 (struct_data ds)
    ≡ items_match parts ds
struct_start_has strict name names parts same c ds =
    at_last (joined_all [] parts) (fields_shape strict (of_struct name) (named_behind 0 names parts))
    (on_struct (λ ids. each_has (struct_start strict name names parts).0 ids ds))
    ∙ (ap (λ ids. each_has (struct_start strict name names parts).0 ids ds) (numbers_named names parts same)
    ∙ parts_have 0 parts (struct_start strict name names parts).0 (all_within parts c)
    (keeps_all [] parts (fields_shape strict (of_struct name) (named_behind 0 names parts) ∷ [])
    (All-weaker IsClosed (λ p. AllNameWithin (length p.0) p.0) (λ p h. h.closed) parts c)) ds)

others_apart : (name : List ℕ) (names : List (List ℕ)) → is_apart name names ≡ true → All (λ n. name ≢ n) names
others_apart name [] e = All-nil (λ n. name ≢ n)
others_apart name (n ∷ names) e =
    All-cons (λ n. name ≢ n) n names
    (λ same. from_false (subst (λ b. not b ≡ true) ((bytes_eq-Decides name n).1 same) (and_left _ _ e)))
    (others_apart name names (and_right (not (bytes_eq name n)) _ e))

-- names that are distinct
pub distinct_names : (names : List (List ℕ)) → all_distinct names ≡ true → AreDistinct names
distinct_names [] e = λ i j d l within. absurd (omega arith)
distinct_names (name ∷ names) e =
    AllPairs-cons (λ a b. a ≢ b) name names (others_apart name names (and_left _ _ e))
    (distinct_names names (and_right (is_apart name names) _ e))

-- a struct with such names
pub distinct_struct : (strict : Bool) (name : List ℕ) (names : List (List ℕ)) (parts : List Start)
    → length names ≡ length parts → all_distinct names ≡ true
    → HasDistinctNames (fields_shape strict (of_struct name) (named_behind 0 names parts))
distinct_struct strict name names parts same e =
    subst AreDistinct (sym (firsts-zip names (starts_behind 0 parts) (length-starts 0 parts ∙ sym same)))
    (distinct_names names e)

-- the tables of a row together
pub length-row : (first : List PlainShape) (parts : List Start)
    → length (joined_all first parts) ≡ length first + total parts
length-row first [] = omega arith
length-row first (p ∷ ps) =
    omega (arith, length-row (joined_tables first p.0) ps, length-joined_tables first p.0)

-- the fields of a row, each of its type, are a struct of that shape
pub struct_of_shape : (strict : Bool) (name : List ℕ) (names : List (List ℕ)) (parts : List Start) {width : ℕ}
    → length names ≡ width → length parts ≡ width → All IsClosed parts → (ds : PlainItems)
    → items_match parts ds ≡ true
    → has_shape (struct_start strict name names parts).0 (struct_start strict name names parts).1 (struct_data ds)
    ≡ true
struct_of_shape strict name names parts many wide c ds h =
    struct_start_has strict name names parts (many ∙ sym wide) c ds ∙ h

-- the elements of a row, each of its type, are a tuple of that shape
pub row_of_shape : (parts : List Start) → All IsClosed parts → (ds : PlainItems) → items_match parts ds ≡ true
    → has_shape (tuple_start parts).0 (tuple_start parts).1 (tuple_data ds) ≡ true
row_of_shape parts c ds h = tuple_start_has parts c ds ∙ h
