-- Choices of variants, and the enums that are made of them.
use Rattle.std.specs.Prelude.{ℕ, suc, ◌≡◌, ◌+◌, ◌-◌, ◌<◌, List, [], ◌∷◌, ◌++◌, map, length, slice_get, nat_le, Bool}
use Rattle.std.specs.Prelude.{true}
use Rattle.std.specs.Prelude.{false, ◌&&◌, ◌⊎◌, String, Vec, string_bytes}
use Rattle.std.specs.List.{list_all}
use Rattle.std.specs.declared.alloc.Global.{Global}
use Rattle.yaml_shape.specs.PlainShape.{PlainShape, enum_shape}
use Rattle.yaml_shape.specs.PlainShape.{PlainVariant, unit_variant, newtype_variant, tuple_variant, struct_variant}
use Rattle.yaml_shape.specs.PlainData.{PlainData, unit_data, tuple_data, struct_data, variant_data}
use Rattle.yaml_shape.specs.ShapeView.{content_of, variants_of}
use Rattle.yaml_shape.specs.HasShape.{passes, has_shape}
use Rattle.yaml_shape.specs.Join.{joined_all, starts_behind, named_behind}
use Rattle.yaml_shape.specs.declared.shape.VariantShape.{VariantShape}
use Rattle.yaml_types.specs.Start.{Start, with_last_shape}
use Rattle.yaml_types.specs.PartShapes.{items_match}
use Rattle.yaml_types.specs.Rows.{total, all_distinct}
use Rattle.yaml_types.specs.declared.choice.OneOf.{OneOf}
use Rattle.yaml_types.specs.declared.choice.OneOf.TheVariants.{First, Other}

-- what a variant holds: nothing, one type, or a row of types, without names or with them; of these it is known whether
-- others are a fault
pub data Content : Type 0 where
  no_content : Content
  one_content : Start → Content
  tuple_content : List Start → Content
  struct_content : (strict : Bool) → List Start → Content

-- the types of what it holds
abbrev pub types_in : Content → List Start
types_in no_content = []
types_in (one_content s) = s ∷ []
types_in (tuple_content ss) = ss
types_in (struct_content strict ss) = ss

-- how many of them have names
abbrev pub width_of : Content → ℕ
width_of no_content = 0
width_of (one_content s) = 0
width_of (tuple_content ss) = 0
width_of (struct_content strict ss) = length ss

-- the types of what variants hold, in a row
abbrev pub all_types : List Content → List Start
all_types [] = []
all_types (c ∷ cs) = types_in c ++ all_types cs

-- what a variant holds, whose fields have these names, in a table where its types start behind so many shapes
abbrev pub content_behind : ℕ → (names : List (List ℕ)) → Content → PlainVariant
content_behind size names no_content = unit_variant
content_behind size names (one_content s) = newtype_variant (size + s.1)
content_behind size names (tuple_content ss) = tuple_variant (starts_behind size ss)
content_behind size names (struct_content strict ss) = struct_variant strict (named_behind size names ss)

-- the name of a variant, and those of its fields
abbrev pub VariantNames : Type 0
VariantNames = List ℕ × List (List ℕ)

-- variants with their names, in a table where their types start behind so many shapes
abbrev pub variants_behind : ℕ → List VariantNames → List Content → List (List ℕ × PlainVariant)
variants_behind size [] cs = []
variants_behind size (n ∷ ns) [] = []
variants_behind size (n ∷ ns) (c ∷ cs) =
    (n.0, content_behind size n.1 c) ∷ variants_behind (size + total (types_in c)) ns cs

-- enums of this name, whose variants have these names and hold these types, their tables in a row
abbrev pub enum_start : (name : List ℕ) → (names : List VariantNames) → List Content → Start
enum_start name names contents =
    with_last_shape (joined_all [] (all_types contents)) (enum_shape name (variants_behind 0 names contents))

-- no two variants have one name, and none has a name for two fields
abbrev pub all_apart : List VariantNames → Bool
all_apart names = all_distinct (map (λ n. n.0) names) && list_all (λ n. all_distinct n.1) names

-- The names are those of variants with so many fields that have names: there are as many for each, at most 4,096
-- variants, no two of one name, and none with a name for two fields.
pub record NamesFit (names : List VariantNames) (widths : List ℕ) : Type 0 where
  pub distinct : all_apart names ≡ true
  pub few : nat_le (length names) 4096 ≡ true
  pub as_many : map (λ n. length n.1) names ≡ widths

-- the names of variants and of their fields, as bytes
abbrev pub variant_names : List (String Global × Vec (String Global) Global) → List VariantNames
variant_names = map (λ n. (string_bytes n.0, map string_bytes n.1.items))

-- the answer is this table with the types of what a variant holds behind it, and what the variant holds there
abbrev pub IsContent : List PlainShape → (names : List (List ℕ)) → Content → List PlainShape × VariantShape → Type 0
IsContent before names content answer =
    (answer.0 ≡ joined_all before (types_in content))
    × (content_of answer.1 ≡ content_behind (length before) names content)

-- The answer is this table with the types of what variants hold behind it, and these variants with their names behind
-- others.
abbrev pub AreVariants : List PlainShape → (others : List (String Global × VariantShape)) → List VariantNames
    → List Content → List PlainShape × Vec (String Global × VariantShape) Global → Type 0
AreVariants before others names contents answer =
    (answer.0 ≡ joined_all before (all_types contents))
    × (variants_of answer.1.items ≡ variants_of others ++ variants_behind (length before) names contents)

-- the data is what the variant holds
abbrev pub content_matches : Content → PlainData → Bool
content_matches no_content unit_data = true
content_matches (one_content s) d = has_shape s.0 s.1 d
content_matches (tuple_content ss) (tuple_data ds) = items_match ss ds
content_matches (struct_content strict ss) (struct_data ds) = items_match ss ds
content_matches _ _ = false

-- there is a variant with this number, and the data is what it holds
abbrev pub choice_matches : List Content → ℕ → PlainData → Bool
choice_matches contents place d = passes (slice_get contents place) (λ c. content_matches c d)

-- the value of the last variant, whose number is 0 once those before it are counted off
abbrev pub BuiltLast : {V : Type 0} → (PlainData → V → Type 0) → ℕ → PlainData → V → Type 0
BuiltLast last place d x = (place ≡ 0) × last d x

-- the last variant refuses the data
abbrev pub RefusedLast : (PlainData → List ℕ → Type 0) → ℕ → PlainData → List ℕ → Type 0
RefusedLast last place d message = (place ≡ 0) × last d message

-- the value of the first variant by the number 0, and one of the others by a number that is by one more than theirs
abbrev pub BuiltOneOf : {V C : Type 0} → (PlainData → V → Type 0) → (ℕ → PlainData → C → Type 0) → ℕ → PlainData
    → OneOf V C → Type 0
BuiltOneOf first others place d (First x) = (place ≡ 0) × first d x
BuiltOneOf first others place d (Other y) = (0 < place) × others (place - 1) d y

-- the variant with this number refuses the data
abbrev pub RefusedOneOf : (PlainData → List ℕ → Type 0) → (ℕ → PlainData → List ℕ → Type 0) → ℕ → PlainData → List ℕ
    → Type 0
RefusedOneOf first others place d message =
    ((place ≡ 0) × first d message) ⊎ ((0 < place) × others (place - 1) d message)

-- a value of the first variant, or one of the others, keeps what those keep
abbrev pub one_of_kept : {V C : Type 0} → (V → Type 0) → (C → Type 0) → OneOf V C → Type 0
one_of_kept first others (First x) = first x
one_of_kept first others (Other y) = others y

-- the first variant has the number 0, and the others come behind it
abbrev pub one_of_place : {V C : Type 0} → (C → ℕ) → OneOf V C → ℕ
one_of_place others (First x) = 0
one_of_place others (Other y) = suc (others y)

-- the data of what the variant holds
abbrev pub one_of_written : {V C : Type 0} → (V → PlainData) → (C → PlainData) → OneOf V C → PlainData
one_of_written first others (First x) = first x
one_of_written first others (Other y) = others y

-- the value of the variant that the data has
abbrev pub BuiltVariant : {C : Type 0} → (ℕ → PlainData → C → Type 0) → PlainData → C → Type 0
BuiltVariant choice (variant_data place d) x = choice place d x
BuiltVariant choice _ x = ⊥

-- the variant that the data has refuses it
abbrev pub RefusedVariant : (ℕ → PlainData → List ℕ → Type 0) → PlainData → List ℕ → Type 0
RefusedVariant choice (variant_data place d) message = choice place d message
RefusedVariant choice _ message = ⊥
