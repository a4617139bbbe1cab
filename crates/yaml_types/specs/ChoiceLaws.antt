-- Data is of the shape of an enum just where it is what one of its variants holds; and choices are closed.
use Rattle.std.proofs.Common.{◌≡◌, ◌<◌, ◌+◌, ℕ, zero, suc, List, [], ◌∷◌, ◌++◌, map, length, true, refl, ◌∙◌}
use Rattle.std.proofs.Common.{sym, ap, subst, All, Bool, arith}
use Rattle.std.specs.Prelude.{slice_get}
use Rattle.std.specs.List.{flat_map}
use Rattle.std.proofs.lemmas.List.Elements.{All-nil, All-cons, All-head, All-tail, All-weaker, All-append}
use Rattle.std.proofs.lemmas.Slice.Zip.{seconds-zip}
use Rattle.yaml_shape.specs.PlainShape.{PlainShape, enum_shape}
use Rattle.yaml_shape.specs.PlainData.{PlainData, unit_data, tuple_data, struct_data, variant_data}
use Rattle.yaml_shape.specs.Validity.{named_in, NamesWithin, AllNameWithin}
use Rattle.yaml_shape.specs.HasShape.{passes, is_unit_data, on_variant, has_shape, tuple_has, struct_has}
use Rattle.yaml_shape.specs.HasShape.{has_content}
use Rattle.yaml_shape.specs.Join.{joined_all, starts_behind, StartsWithin}
use Rattle.yaml_shape.specs.Kept.{KeepsAllShapes}
use Rattle.yaml_shape.proofs.PartLaws.{length-starts}
use Rattle.yaml_shape.proofs.RowShapes.{numbers_inside}
use Rattle.yaml_shape.proofs.Stands.{keeps_all}
use Rattle.yaml_types.specs.Start.{Start, IsClosed}
use Rattle.yaml_types.specs.StartLaws.{closed_with, closed_all, all_within}
use Rattle.yaml_types.specs.ShapeLaws.{at_last, parts_have}
use Rattle.yaml_types.specs.StructLaws.{length-row}
use Rattle.yaml_types.specs.Rows.{total}
use Rattle.yaml_types.specs.Choices.{Content, no_content, one_content, tuple_content, struct_content, types_in}
use Rattle.yaml_types.specs.Choices.{width_of, all_types, content_behind, VariantNames, variants_behind, enum_start}
use Rattle.yaml_types.specs.Choices.{content_matches, choice_matches}

-- what is so of each of two lists in a row is so of each list
All-left : {X : Type 0} (P : X → Type 0) (xs ys : List X) → All P (xs ++ ys) → All P xs
All-left P [] ys h = All-nil P
All-left P (x ∷ xs) ys h = All-cons P x xs (All-head P x (xs ++ ys) h) (All-left P xs ys (All-tail P x (xs ++ ys) h))

All-right : {X : Type 0} (P : X → Type 0) (xs ys : List X) → All P (xs ++ ys) → All P ys
All-right P [] ys h = h
All-right P (x ∷ xs) ys h = All-right P xs ys (All-tail P x (xs ++ ys) h)

-- the types of a variant, and those of others
pub more_closed : (c : Content) (cs : List Content) → All IsClosed (types_in c) → All IsClosed (all_types cs)
    → All IsClosed (all_types (c ∷ cs))
more_closed c cs h hs = All-append IsClosed (types_in c) (all_types cs) h hs

-- the types of the last variant
pub last_closed : (c : Content) → All IsClosed (types_in c) → All IsClosed (all_types (c ∷ []))
last_closed c h = more_closed c [] h (All-nil IsClosed)

-- tables in a row together
pub total-append : (xs ys : List Start) → total (xs ++ ys) ≡ total xs + total ys
total-append [] ys = omega arith
total-append (x ∷ xs) ys = omega (arith, total-append xs ys)

-- each start is before the end of the row
starts_bounded : (size : ℕ) (parts : List Start) → All StartsWithin parts
    → All (λ id. id < size + total parts) (starts_behind size parts)
starts_bounded size [] w = All-nil (λ id. id < size + 0)
starts_bounded size (p ∷ ps) w =
    let here : p.1 < length p.0 = All-head StartsWithin p ps w in
    All-cons (λ id. id < size + (length p.0 + total ps)) (size + p.1) (starts_behind (size + length p.0) ps)
    (omega arith)
    (All-weaker (λ id. id < (size + length p.0) + total ps) (λ id. id < size + (length p.0 + total ps))
    (λ id h. omega arith) (starts_behind (size + length p.0) ps)
    (starts_bounded (size + length p.0) ps (All-tail StartsWithin p ps w)))

content_bounded : (size : ℕ) (names : List (List ℕ)) (c : Content) → All StartsWithin (types_in c)
    → All (λ id. id < size + total (types_in c)) (named_in (content_behind size names c))
content_bounded size names no_content w = All-nil (λ id. id < size + 0)
content_bounded size names (one_content s) w =
    let here : s.1 < length s.0 = All-head StartsWithin s [] w in
    All-cons (λ id. id < size + (length s.0 + 0)) (size + s.1) [] (omega arith)
    (All-nil (λ id. id < size + (length s.0 + 0)))
content_bounded size names (tuple_content ss) w = starts_bounded size ss w
content_bounded size names (struct_content strict ss) w =
    numbers_inside (λ id. id < size + total ss) names (starts_behind size ss) (starts_bounded size ss w)

-- the numbers that variants name are before the end of the row of their types
pub variants_bounded : (size : ℕ) (names : List VariantNames) (cs : List Content) → All StartsWithin (all_types cs)
    → All (λ id. id < size + total (all_types cs)) (flat_map (λ v. named_in v.1) (variants_behind size names cs))
variants_bounded size [] cs w = All-nil (λ id. id < size + total (all_types cs))
variants_bounded size (n ∷ ns) [] w = All-nil (λ id. id < size + 0)
variants_bounded size (n ∷ ns) (c ∷ cs) w =
    let both : total (types_in c ++ all_types cs) ≡ total (types_in c) + total (all_types cs) =
    total-append (types_in c) (all_types cs) in
    All-append (λ id. id < size + total (types_in c ++ all_types cs)) (named_in (content_behind size n.1 c))
    (flat_map (λ v. named_in v.1) (variants_behind (size + total (types_in c)) ns cs))
    (All-weaker (λ id. id < size + total (types_in c)) (λ id. id < size + total (types_in c ++ all_types cs))
    (λ id h. omega arith) (named_in (content_behind size n.1 c))
    (content_bounded size n.1 c (All-left StartsWithin (types_in c) (all_types cs) w)))
    (All-weaker (λ id. id < (size + total (types_in c)) + total (all_types cs))
    (λ id. id < size + total (types_in c ++ all_types cs)) (λ id h. omega arith)
    (flat_map (λ v. named_in v.1) (variants_behind (size + total (types_in c)) ns cs))
    (variants_bounded (size + total (types_in c)) ns cs (All-right StartsWithin (types_in c) (all_types cs) w)))

-- an enum names only the types of its variants
pub names_variants : (name : List ℕ) (names : List VariantNames) (cs : List Content) → All IsClosed (all_types cs)
    → NamesWithin (length (joined_all [] (all_types cs))) (enum_shape name (variants_behind 0 names cs))
names_variants name names cs c =
    subst (λ n. All (λ id. id < n) (flat_map (λ v. named_in v.1) (variants_behind 0 names cs)))
    (sym (length-row [] (all_types cs))) (variants_bounded 0 names cs (all_within (all_types cs) c))

-- enums of a choice
pub closed_enum : (name : List ℕ) (names : List VariantNames) (cs : List Content) → All IsClosed (all_types cs)
    → IsClosed (enum_start name names cs)
closed_enum name names cs c =
    closed_with (joined_all [] (all_types cs)) (enum_shape name (variants_behind 0 names cs))
    (closed_all [] (all_types cs) (All-nil (NamesWithin 0)) c) (names_variants name names cs c)

-- tables that stand in a larger one in a row: the first, and the others behind them
keeps_both : (by : ℕ) (ps qs : List Start) (whole : List PlainShape) → KeepsAllShapes by (ps ++ qs) whole
    → KeepsAllShapes by ps whole × KeepsAllShapes (by + total ps) qs whole
keeps_both by [] qs whole k =
    let same : by ≡ by + 0 = omega arith in (tt, subst (λ n. KeepsAllShapes n qs whole) same k)
keeps_both by (p ∷ ps) qs whole k =
    let rest = keeps_both (by + length p.0) ps qs whole k.1 in
    let same : (by + length p.0) + total ps ≡ by + (length p.0 + total ps) = omega arith in
    ((k.0, rest.0), subst (λ n. KeepsAllShapes n qs whole) same rest.1)

unit_has : (d : PlainData) → is_unit_data d ≡ content_matches no_content d
unit_has unit_data = refl
unit_has _ = refl

tuple_variant_has : (size : ℕ) (ss : List Start) (whole : List PlainShape) → All StartsWithin ss
    → KeepsAllShapes size ss whole → (d : PlainData)
    → tuple_has whole (starts_behind size ss) d ≡ content_matches (tuple_content ss) d
tuple_variant_has size ss whole w k (tuple_data ds) = parts_have size ss whole w k ds
tuple_variant_has size ss whole w k _ = refl

fields_have : (strict : Bool) (size : ℕ) (ss : List Start) (whole : List PlainShape) → All StartsWithin ss
    → KeepsAllShapes size ss whole → (d : PlainData)
    → struct_has whole (starts_behind size ss) d ≡ content_matches (struct_content strict ss) d
fields_have strict size ss whole w k (struct_data ds) = parts_have size ss whole w k ds
fields_have strict size ss whole w k _ = refl

-- what a variant holds
content_has : (size : ℕ) (names : List (List ℕ)) (c : Content) (whole : List PlainShape) → length names ≡ width_of c
    → All StartsWithin (types_in c) → KeepsAllShapes size (types_in c) whole → (d : PlainData)
    → has_content whole d (content_behind size names c) ≡ content_matches c d
content_has size names no_content whole same w k d = unit_has d
content_has size names (one_content s) whole same w k d = k.0 s.1 d (All-head StartsWithin s [] w)
content_has size names (tuple_content ss) whole same w k d = tuple_variant_has size ss whole w k d
content_has size names (struct_content strict ss) whole same w k d =
    ap (λ ids. struct_has whole ids d) (seconds-zip names (starts_behind size ss) (length-starts size ss ∙ sym same))
    ∙ fields_have strict size ss whole w k d

abbrev pub first_of : List ℕ → ℕ
first_of [] = 0
first_of (n ∷ ns) = n

abbrev pub others_of : List ℕ → List ℕ
others_of [] = []
others_of (n ∷ ns) = ns

choice_has : (size : ℕ) (names : List VariantNames) (cs : List Content) (whole : List PlainShape)
    → map (λ n. length n.1) names ≡ map width_of cs → All StartsWithin (all_types cs)
    → KeepsAllShapes size (all_types cs) whole → (place : ℕ) (d : PlainData)
    → passes (slice_get (variants_behind size names cs) place) (λ v. has_content whole d v.1)
    ≡ choice_matches cs place d
choice_has size [] [] whole same w k place d = refl
choice_has size [] (c ∷ cs) whole same w k place d =
    let e : 0 ≡ suc (length (map width_of cs)) = ap length same in absurd (omega arith)
choice_has size (n ∷ ns) [] whole same w k place d =
    let e : suc (length (map (λ n. length n.1) ns)) ≡ 0 = ap length same in absurd (omega arith)
choice_has size (n ∷ ns) (c ∷ cs) whole same w k zero d =
    content_has size n.1 c whole (ap first_of same) (All-left StartsWithin (types_in c) (all_types cs) w)
    (keeps_both size (types_in c) (all_types cs) whole k).0 d
choice_has size (n ∷ ns) (c ∷ cs) whole same w k (suc place) d =
    choice_has (size + total (types_in c)) ns cs whole (ap others_of same)
    (All-right StartsWithin (types_in c) (all_types cs) w)
    (keeps_both size (types_in c) (all_types cs) whole k).1 place d

-- an enum
pub enum_has : (name : List ℕ) (names : List VariantNames) (cs : List Content)
    → map (λ n. length n.1) names ≡ map width_of cs → All IsClosed (all_types cs) → (place : ℕ) (d : PlainData)
    → has_shape (enum_start name names cs).0 (enum_start name names cs).1 (variant_data place d)
    ≡ choice_matches cs place d
enum_has name names cs same c place d =
    at_last (joined_all [] (all_types cs)) (enum_shape name (variants_behind 0 names cs))
    (on_variant place (λ content. has_content (enum_start name names cs).0 d content))
    ∙ choice_has 0 names cs (enum_start name names cs).0 same (all_within (all_types cs) c)
    (keeps_all [] (all_types cs) (enum_shape name (variants_behind 0 names cs) ∷ [])
    (All-weaker IsClosed (λ p. AllNameWithin (length p.0) p.0) (λ p h. h.closed) (all_types cs) c)) place d

-- what a variant of a choice holds is an enum of that shape
pub enum_of_shape : (name : List ℕ) (names : List VariantNames) (cs : List Content) {widths : List ℕ}
    → map (λ n. length n.1) names ≡ widths → map width_of cs ≡ widths → All IsClosed (all_types cs)
    → (place : ℕ) (d : PlainData) → choice_matches cs place d ≡ true
    → has_shape (enum_start name names cs).0 (enum_start name names cs).1 (variant_data place d) ≡ true
enum_of_shape name names cs many wide c place d h = enum_has name names cs (many ∙ sym wide) c place d ∙ h
