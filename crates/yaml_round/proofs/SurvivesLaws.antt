-- Walks over pairs, items and fields.
use Rattle.std.specs.Prelude.{Bool, true, false, ◌&&◌}
use Rattle.std.proofs.Common.{◌≡◌, ℕ, suc, List, [], ◌∷◌, length, refl, sym, ap, ◌∙◌}
use Rattle.std.specs.Prelude.{String}
use Rattle.std.specs.declared.alloc.Global.{Global}
use Rattle.yaml_tree.specs.Tree.{Tree, Pairs, no_pairs, pair, pair_list}
use Rattle.yaml_shape.specs.DataView.{data_of, items_view}
use Rattle.yaml_shape.specs.PlainShape.{PlainShape}
use Rattle.yaml_shape.specs.ShapeView.{ids_of, fields_of}
use Rattle.yaml_shape.specs.Validity.{numbers_of}
use Rattle.yaml_shape.specs.declared.data.Data.{Data}
use Rattle.yaml_shape.specs.declared.shape.ShapeId.{ShapeId}
use Rattle.yaml_round.specs.Survives.{value_survives, pairs_survive, survives, each_survives}

-- pairs in a row survive
abbrev pub list_survives : ℕ → List (Tree × Tree) → Bool
list_survives depth [] = true
list_survives depth (p ∷ ps) =
    (value_survives false depth p.0 && value_survives false depth p.1) && list_survives depth ps

-- the pairs of a mapping do where they do in a row
pub pairs_survive-list : (depth : ℕ) (ps : Pairs) → pairs_survive depth ps ≡ list_survives depth (pair_list ps)
pairs_survive-list depth no_pairs = refl
pairs_survive-list depth (pair k v ps) =
    λ i. (value_survives false depth k && value_survives false depth v) && pairs_survive-list depth ps i

-- what is not, whatever stands before it
and_false : (b : Bool) → (b && false) ≡ false
and_false true = refl
and_false false = refl

-- elements and shapes of different number
pub other_count : (t : List PlainShape) (ids : List ShapeId) (depth : ℕ) (items : List Data)
    → (length ids ≡ length items → ⊥) → false ≡ each_survives t (ids_of ids) depth (items_view items)
other_count t [] depth [] differ = absurd (differ refl)
other_count t [] depth (d ∷ ds) differ = refl
other_count t (id ∷ ids) depth [] differ = refl
other_count t (id ∷ ids) depth (d ∷ ds) differ =
    sym (ap (λ b. survives t id.0 false depth (data_of d) && b)
    (sym (other_count t ids depth ds (λ e. differ (ap suc e))))
    ∙ and_false (survives t id.0 false depth (data_of d)))

-- elements and fields of different number
pub other_fields : (t : List PlainShape) (fields : List (String Global × ShapeId)) (depth : ℕ) (items : List Data)
    → (length fields ≡ length items → ⊥)
    → false ≡ each_survives t (numbers_of (fields_of fields)) depth (items_view items)
other_fields t [] depth [] differ = absurd (differ refl)
other_fields t [] depth (d ∷ ds) differ = refl
other_fields t (f ∷ fs) depth [] differ = refl
other_fields t (f ∷ fs) depth (d ∷ ds) differ =
    sym (ap (λ b. survives t f.1.0 false depth (data_of d) && b)
    (sym (other_fields t fs depth ds (λ e. differ (ap suc e))))
    ∙ and_false (survives t f.1.0 false depth (data_of d)))
