-- Data of the shape of an enum is one of its variants; and the schemas of enums, as the code joins them.
use Rattle.std.proofs.Common.{◌≡◌, ◌≢◌, ◌+◌, ℕ, List, [], ◌∷◌, ◌++◌, map, length, Bool, true, false, Some, refl}
use Rattle.std.proofs.Common.{rules, sym, ◌∙◌, ap, subst, All, arith, length-append, append_assoc, string_bytes}
use Rattle.std.specs.Prelude.{Box, Vec, String, IsTrue, Result, Ok, Err, IfErr}
use Rattle.std.specs.List.{list_all}
use Rattle.std.specs.declared.alloc.Global.{Global}
use Rattle.std.proofs.lemmas.List.{map-append}
use Rattle.std.proofs.lemmas.List.Elements.{All-nil, All-cons}
use Rattle.std.proofs.lemmas.Slice.Zip.{firsts-zip}
use Rattle.yaml_tree.specs.TakeOut.{and_left, and_right}
use Rattle.yaml_shape.specs.PlainShape.{PlainShape, PlainVariant, shape_at, enum_shape}
use Rattle.yaml_shape.specs.PlainData.{PlainData, variant_data}
use Rattle.yaml_shape.specs.HasShape.{HasShape, has_shape}
use Rattle.yaml_shape.specs.Validity.{names_of, NamesWithin, AreDistinct, IsDistinctInside, HasDistinctNames}
use Rattle.yaml_shape.specs.Join.{joined_tables, joined_all, starts_behind, IsTooLarge, IsNotAdded}
use Rattle.yaml_shape.specs.ShapeView.{variant_of, variants_of}
use Rattle.yaml_shape.specs.DataView.{data_of}
use Rattle.yaml_shape.specs.declared.data.Data.{Data, the_lemmas}
use Rattle.yaml_shape.specs.declared.data.Data as code
use Rattle.yaml_shape.specs.declared.shape.VariantShape.{VariantShape}
use Rattle.yaml_shape.specs.declared.fault.SchemaFault.{SchemaFault}
use Rattle.yaml_shape.proofs.PartLaws.{larger, length-starts}
use Rattle.yaml_types.specs.Start.{Start, IsClosed}
use Rattle.yaml_types.specs.StructLaws.{distinct_names, length-row}
use Rattle.yaml_types.specs.Rows.{total, all_distinct}
use Rattle.yaml_types.specs.Choices.{Content, no_content, one_content, tuple_content, struct_content, types_in}
use Rattle.yaml_types.specs.Choices.{width_of, all_types, content_behind, VariantNames, variants_behind, enum_start}
use Rattle.yaml_types.specs.Choices.{all_apart}
use Rattle.yaml_types.specs.Choices.{variant_names, IsContent, AreVariants, choice_matches}
use Rattle.yaml_types.specs.ChoiceLaws.{total-append, names_variants, enum_has, first_of, others_of}
use Rattle.yaml_types.proofs.StructFound.{Part, one_refused}

last_shape : (shapes : List PlainShape) (shape : PlainShape)
    → shape_at (shapes ++ shape ∷ []) (length shapes) ≡ Some shape
last_shape [] shape = refl
last_shape (s ∷ shapes) shape = last_shape shapes shape

abbrev is_variant : PlainData → Bool
is_variant (variant_data place d) = true
is_variant _ = false

found_variant : (shapes : List PlainShape) (name : List ℕ) (variants : List (List ℕ × PlainVariant)) (d : PlainData)
    → HasShape (shapes ++ enum_shape name variants ∷ []) (length shapes) d → IsTrue (is_variant d)
found_variant shapes name variants (variant_data place d) h = refl
found_variant shapes name variants _ h = let e = rw last_shape at h in cc

by_variant : (found : Data) → IsTrue (is_variant (data_of found))
    → ((place : ℕ) (content : Box Data Global) → found ≢ code.Variant place content) → ⊥
by_variant found h other = search (rules, the_lemmas)

-- an enum is a variant
pub not_variant : (shapes : List PlainShape) (name : List ℕ) (variants : List (List ℕ × PlainVariant)) (found : Data)
    → HasShape (shapes ++ enum_shape name variants ∷ []) (length shapes) (data_of found)
    → ((place : ℕ) (content : Box Data Global) → found ≢ code.Variant place content) → ⊥
not_variant shapes name variants found h other =
    by_variant found (found_variant shapes name variants (data_of found) h) other

data_of-Variant : (place : ℕ) (content : Box Data Global)
    → data_of (code.Variant place content) ≡ variant_data place (data_of content.value)
data_of-Variant place content = search (rules, the_lemmas)

-- its content is what the variant holds
pub held_found : (name : List ℕ) (names : List VariantNames) (cs : List Content)
    → map (λ n. length n.1) names ≡ map width_of cs → All IsClosed (all_types cs) → (found : Data) (place : ℕ)
    (content : Box Data Global) (d : Data) → found ≡ code.Variant place content → d ≡ content.value
    → HasShape (enum_start name names cs).0 (enum_start name names cs).1 (data_of found)
    → IsTrue (choice_matches cs place (data_of d))
held_found name names cs same c found place content d is inner h =
    ap (λ d. choice_matches cs place (data_of d)) inner
    ∙ (sym (enum_has name names cs same c place (data_of content.value))
    ∙ (ap (has_shape (enum_start name names cs).0 (enum_start name names cs).1)
    (sym (ap data_of is ∙ data_of-Variant place content)) ∙ h))

joined-append : (first : List PlainShape) (ps qs : List Start)
    → joined_all (joined_all first ps) qs ≡ joined_all first (ps ++ qs)
joined-append first [] qs = refl
joined-append first (p ∷ ps) qs = joined-append (joined_tables first p.0) ps qs

-- the first variant is behind others, and then the rest
pub variants_more : (before table : List PlainShape) (c : Content) (cs : List Content)
    (others all : List (String Global × VariantShape)) (name : String Global) (fields : Vec (String Global) Global)
    (content : VariantShape) (given rest : List (String Global × Vec (String Global) Global))
    (made : List PlainShape × Vec (String Global × VariantShape) Global)
    → given ≡ (name, fields) ∷ rest → IsContent before (map string_bytes fields.items) c (table, content)
    → all ≡ others ++ (name, content) ∷ [] → AreVariants table all (variant_names rest) cs made
    → AreVariants before others (variant_names given) (c ∷ cs) made
variants_more before table c cs others all name fields content given rest made next here pushed are =
    let size : length table ≡ length before + total (types_in c) =
    ap length here.0 ∙ length-row before (types_in c) in (
      are.0 ∙ (ap (λ t. joined_all t (all_types cs)) here.0 ∙ joined-append before (types_in c) (all_types cs)),
      subst (λ l. variants_of made.1.items ≡ variants_of others
          ++ variants_behind (length before) (variant_names l) (c ∷ cs)) (sym next)
          (are.1
          ∙ (ap (λ l. variants_of l ++ variants_behind (length table) (variant_names rest) cs) pushed
          ∙ (ap (λ l. l ++ variants_behind (length table) (variant_names rest) cs)
          (map-append variant_of others ((name, content) ∷ []))
          ∙ (append_assoc (variants_of others) (variant_of (name, content) ∷ [])
          (variants_behind (length table) (variant_names rest) cs)
          ∙ (ap (λ n. variants_of others ++ (variant_of (name, content)
          ∷ variants_behind n (variant_names rest) cs)) size
          ∙ ap (λ p. variants_of others ++ ((string_bytes name, p)
          ∷ variants_behind (length before + total (types_in c)) (variant_names rest) cs)) here.1))))),
    )

-- where the first variant is too large, the choice is
pub first_too_large : (fault : SchemaFault) (before : List PlainShape) (c : Content) (cs : List Content)
    → IsTooLarge (length before + total (types_in c)) fault
    → IsTooLarge (length before + total (types_in c ++ all_types cs)) fault
first_too_large fault before c cs h =
    larger fault (length before + total (types_in c)) (length before + total (types_in c ++ all_types cs))
    (omega (arith, total-append (types_in c) (all_types cs))) h

-- and where the others are
pub others_too_large : (fault : SchemaFault) (before table : List PlainShape) (c : Content) (cs : List Content)
    → table ≡ joined_all before (types_in c) → IsTooLarge (length table + total (all_types cs)) fault
    → IsTooLarge (length before + total (types_in c ++ all_types cs)) fault
others_too_large fault before table c cs made h =
    let size : length table ≡ length before + total (types_in c) = ap length made ∙ length-row before (types_in c) in
    larger fault (length table + total (all_types cs)) (length before + total (types_in c ++ all_types cs))
    (omega (arith, size, total-append (types_in c) (all_types cs))) h

-- the table and the variants of a choice behind nothing
pub enum_made : (none : List PlainShape) (no_others : List (String Global × VariantShape)) (names : List VariantNames)
    (given : List (String Global × Vec (String Global) Global)) (cs : List Content)
    (made : List PlainShape × Vec (String Global × VariantShape) Global) → none ≡ [] → no_others ≡ []
    → variant_names given ≡ names → AreVariants none no_others (variant_names given) cs made
    → (made.0 ≡ joined_all [] (all_types cs)) × (variants_of made.1.items ≡ variants_behind 0 names cs)
enum_made none no_others names given cs made empty alone same are = (
  are.0 ∙ ap (λ t. joined_all t (all_types cs)) empty,
  are.1
      ∙ (ap (λ l. variants_of l ++ variants_behind (length none) (variant_names given) cs) alone
      ∙ (ap (λ t. variants_behind (length t) (variant_names given) cs) empty
      ∙ ap (λ ns. variants_behind 0 ns cs) same)),
)

-- the enum names only what is in the table
pub enum_within : (name : List ℕ) (names : List VariantNames) (cs : List Content) (table : List PlainShape)
    (variants : List (List ℕ × PlainVariant))
    → (table ≡ joined_all [] (all_types cs)) × (variants ≡ variants_behind 0 names cs) → All IsClosed (all_types cs)
    → NamesWithin (length table) (enum_shape name variants)
enum_within name names cs table variants made c =
    subst (λ v. NamesWithin (length table) (enum_shape name v)) (sym made.1)
    (subst (λ t. NamesWithin (length t) (enum_shape name (variants_behind 0 names cs))) (sym made.0)
    (names_variants name names cs c))

names_kept : (size : ℕ) (names : List VariantNames) (cs : List Content)
    → map (λ n. length n.1) names ≡ map width_of cs
    → names_of (variants_behind size names cs) ≡ map (λ n. n.0) names
names_kept size [] cs same = refl
names_kept size (n ∷ ns) [] same = let e = ap length same in absurd (omega arith)
names_kept size (n ∷ ns) (c ∷ cs) same =
    ap (λ l. n.0 ∷ l) (names_kept (size + total (types_in c)) ns cs (ap others_of same))

distinct_content : (size : ℕ) (names : List (List ℕ)) (c : Content) → length names ≡ width_of c
    → all_distinct names ≡ true → IsDistinctInside (content_behind size names c)
distinct_content size names no_content same e = tt
distinct_content size names (one_content s) same e = tt
distinct_content size names (tuple_content ss) same e = tt
distinct_content size names (struct_content strict ss) same e =
    subst AreDistinct (sym (firsts-zip names (starts_behind size ss) (length-starts size ss ∙ sym same)))
    (distinct_names names e)

distinct_contents : (size : ℕ) (names : List VariantNames) (cs : List Content)
    → map (λ n. length n.1) names ≡ map width_of cs → list_all (λ n. all_distinct n.1) names ≡ true
    → All (λ v. IsDistinctInside v.1) (variants_behind size names cs)
distinct_contents size [] cs same e = All-nil (λ v. IsDistinctInside v.1)
distinct_contents size (n ∷ ns) [] same e = All-nil (λ v. IsDistinctInside v.1)
distinct_contents size (n ∷ ns) (c ∷ cs) same e =
    All-cons (λ v. IsDistinctInside v.1) (n.0, content_behind size n.1 c)
    (variants_behind (size + total (types_in c)) ns cs)
    (distinct_content size n.1 c (ap first_of same) (and_left _ _ e))
    (distinct_contents (size + total (types_in c)) ns cs (ap others_of same) (and_right (all_distinct n.1) _ e))

distinct_enum : (name : List ℕ) (names : List VariantNames) (cs : List Content)
    → map (λ n. length n.1) names ≡ map width_of cs → all_apart names ≡ true
    → HasDistinctNames (enum_shape name (variants_behind 0 names cs))
distinct_enum name names cs same e = (
  subst AreDistinct (sym (names_kept 0 names cs same)) (distinct_names (map (λ n. n.0) names) (and_left _ _ e)),
  distinct_contents 0 names cs same (and_right (all_distinct (map (λ n. n.0) names)) _ e),
)

-- an enum with distinct names is refused only for its size
pub enum_refused : (r : Result Part SchemaFault) (name other : List ℕ) (names : List VariantNames) (cs : List Content)
    (table : List PlainShape) (variants : List (List ℕ × PlainVariant))
    → (table ≡ joined_all [] (all_types cs)) × (variants ≡ variants_behind 0 names cs)
    → map (λ n. length n.1) names ≡ map width_of cs → all_apart names ≡ true
    → IfErr r (IsNotAdded (length table) (enum_shape other variants))
    → IfErr r (IsTooLarge (length (enum_start name names cs).0))
enum_refused (Ok a) name other names cs table variants made same e h = tt
enum_refused (Err fault) name other names cs table variants made same e h =
    one_refused fault (length table) (length (enum_start name names cs).0) (enum_shape other variants)
    (length-append (joined_all [] (all_types cs)) (enum_shape name (variants_behind 0 names cs) ∷ [])
    ∙ ap (λ t. length t + 1) (sym made.0))
    (subst (λ v. HasDistinctNames (enum_shape other v)) (sym made.1) (distinct_enum other names cs same e)) h

-- where the choice is too large, the enum is
pub choice_too_large : (fault : SchemaFault) (none : List PlainShape) (name : List ℕ) (names : List VariantNames)
    (cs : List Content) → none ≡ [] → IsTooLarge (length none + total (all_types cs)) fault
    → IsTooLarge (length (enum_start name names cs).0) fault
choice_too_large fault none name names cs empty h =
    let size : length (enum_start name names cs).0 ≡ length (joined_all [] (all_types cs)) + 1 =
    length-append (joined_all [] (all_types cs)) (enum_shape name (variants_behind 0 names cs) ∷ []) in
    let row : length (joined_all [] (all_types cs)) ≡ 0 + total (all_types cs) = length-row [] (all_types cs) in
    let none_long : length none ≡ 0 = ap length empty in
    larger fault (length none + total (all_types cs)) (length (enum_start name names cs).0)
    (omega (arith, size, row, none_long)) h
