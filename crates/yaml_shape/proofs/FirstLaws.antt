-- The first shape of a table that isn't so, found by a walk from its start.
use Rattle.std.proofs.Common.{◌≡◌, ◌<◌, ◌≤◌, ◌+◌, ℕ, List, Some, map, length, take, get_or, sym, ◌∙◌, ap, subst, All}
use Rattle.std.proofs.Common.{arith}
use Rattle.std.specs.Prelude.{slice_get}
use Rattle.std.proofs.lemmas.List.{take_all, take-map, length-map, get_or-map}
use Rattle.std.proofs.lemmas.List.Elements.{All-more, All-map, All-same}
use Rattle.std.proofs.lemmas.Option.{slice_get-get_or}
use Rattle.yaml_shape.specs.declared.shape.Shape.{Shape}
use Rattle.yaml_shape.specs.PlainShape.{PlainShape}
use Rattle.yaml_shape.specs.ShapeView.{shape_of}
use Rattle.yaml_shape.specs.SchemaRefusal.{IsFirstWithout}

-- what the table has at a place, as the code reads it
pub plain_at : (shapes : List Shape) (i : ℕ) (x : Shape) → i < length shapes → x ≡ get_or shapes i x
    → slice_get (map shape_of shapes) i ≡ Some (shape_of x)
plain_at shapes i x within here =
    let size : length (map shape_of shapes) ≡ length shapes = length-map shapes shape_of in
    slice_get-get_or (map shape_of shapes) i (shape_of x) (omega arith)
    ∙ ap Some (get_or-map shape_of shapes i x (shape_of x) within ∙ ap shape_of (sym here))

-- each shape before is so, and this one isn't
pub first_without : (P : PlainShape → Type 0) (shapes : List Shape) (i : ℕ) (x : Shape) → i < length shapes
    → x ≡ get_or shapes i x
    → All (λ s. P (shape_of s)) (take i shapes) → (P (shape_of x) → ⊥) → IsFirstWithout P (map shape_of shapes) i
first_without P shapes i x within here before without =
    let size : length (map shape_of shapes) ≡ length shapes = length-map shapes shape_of in
    record {
      before = rw take-map (All-map P shape_of (take i shapes) before);
      without = rw (plain_at shapes i x within here) without;
      within = omega arith;
    }

-- each shape before is so, and this one too
pub one_more : (P : PlainShape → Type 0) (shapes : List Shape) (i : ℕ) (x : Shape) → i < length shapes
    → x ≡ get_or shapes i x
    → All (λ s. P (shape_of s)) (take i shapes) → P (shape_of x) → All (λ s. P (shape_of s)) (take (i + 1) shapes)
one_more P shapes i x within here before too =
    All-more (λ s. P (shape_of s)) shapes i x within before (subst (λ s. P (shape_of s)) here too)

-- each shape is so, once none is left
pub all_so : (P : PlainShape → Type 0) (shapes : List Shape) (i : ℕ) → length shapes ≤ i
    → All (λ s. P (shape_of s)) (take i shapes) → All P (map shape_of shapes)
all_so P shapes i end before =
    All-map P shape_of shapes (All-same (λ s. P (shape_of s)) shapes (take i shapes)
    (sym (take_all i shapes end)) before)
