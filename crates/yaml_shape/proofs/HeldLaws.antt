-- Names in memory are UTF-8, and no shape in memory is the content of a variant alone.
use Rattle.std.specs.Prelude.{Bool, true, false, ◌&&◌, String, map}
use Rattle.std.specs.List.{list_all}
use Rattle.std.specs.Str.{is_utf8}
use Rattle.std.specs.declared.alloc.Global.{Global}
use Rattle.std.proofs.Common.{◌≡◌, List, [], ◌∷◌, refl, string_bytes}
use Rattle.std.proofs.lemmas.Str.{IsUtf8-string_bytes, is_utf8-from_IsUtf8}
use Rattle.yaml_shape.specs.Held.{are_texts, is_named_content, is_table, is_table_shape}
use Rattle.yaml_shape.specs.ShapeView.{fields_of, content_of, variants_of, shape_of}
use Rattle.yaml_shape.specs.Validity.{names_of}
use Rattle.yaml_shape.specs.declared.shape.Shape.{Shape}
use Rattle.yaml_shape.specs.declared.shape.Shape.TheVariants as shape
use Rattle.yaml_shape.specs.declared.shape.ShapeId.{ShapeId}
use Rattle.yaml_shape.specs.declared.shape.VariantShape.{VariantShape}
use Rattle.yaml_shape.specs.declared.shape.VariantShape.TheVariants as variant

both : (a b : Bool) → a ≡ true → b ≡ true → (a && b) ≡ true
both true b h k = k
both false b h k = absurd cc

-- the bytes of a string
pub is_text : (s : String Global) → is_utf8 (string_bytes s) ≡ true
is_text s = is_utf8-from_IsUtf8 (string_bytes s) (IsUtf8-string_bytes s)

-- the names of fields
field_names : (fs : List (String Global × ShapeId)) → are_texts (names_of (fields_of fs)) ≡ true
field_names [] = refl
field_names (f ∷ fs) =
    both (is_utf8 (string_bytes f.0)) (are_texts (names_of (fields_of fs))) (is_text f.0) (field_names fs)

-- the names of variants, and those in their contents
variant_names : (vs : List (String Global × VariantShape)) → are_texts (names_of (variants_of vs)) ≡ true
variant_names [] = refl
variant_names (v ∷ vs) =
    both (is_utf8 (string_bytes v.0)) (are_texts (names_of (variants_of vs))) (is_text v.0) (variant_names vs)

content_names : (v : VariantShape) → is_named_content (content_of v) ≡ true
content_names (variant.Struct fields) = field_names fields.items
content_names (variant.StrictStruct fields) = field_names fields.items
content_names _ = refl

all_contents : (vs : List (String Global × VariantShape))
    → list_all (λ v. is_named_content v.1) (variants_of vs) ≡ true
all_contents [] = refl
all_contents (v ∷ vs) =
    both (is_named_content (content_of v.1)) (list_all (λ v. is_named_content v.1) (variants_of vs))
    (content_names v.1) (all_contents vs)

-- a shape
shape_is_held : (s : Shape) → is_table_shape (shape_of s) ≡ true
shape_is_held (shape.Struct name fields) = field_names fields.items
shape_is_held (shape.StrictStruct name fields) = field_names fields.items
shape_is_held (shape.Enum name variants) =
    both (are_texts (names_of (variants_of variants.items)))
    (list_all (λ v. is_named_content v.1) (variants_of variants.items)) (variant_names variants.items)
    (all_contents variants.items)
shape_is_held _ = refl

-- a table of shapes
pub shapes_are_held : (shapes : List Shape) → is_table (map shape_of shapes) ≡ true
shapes_are_held [] = refl
shapes_are_held (s ∷ shapes) =
    both (is_table_shape (shape_of s)) (is_table (map shape_of shapes)) (shape_is_held s) (shapes_are_held shapes)
