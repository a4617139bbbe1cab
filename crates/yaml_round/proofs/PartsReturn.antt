-- The parts of collections mean themselves where each does: the elements of tuples, and the fields of structs.
use Rattle.std.specs.Prelude.{Bool, true, false, max, map, slice_get, set}
use Rattle.std.specs.Str.{is_utf8}
use Rattle.std.proofs.Common.{◌≡◌, ℕ, suc, List, [], ◌∷◌, ◌++◌, length, Some, None}
use Rattle.std.proofs.Common.{refl, sym, ap, subst, arith}
use Rattle.std.proofs.lemmas.List.{append_assoc}
use Rattle.yaml_base.specs.AskedStyles.{asked_style}
use Rattle.yaml_base.specs.DocTree.{DocNode, DocPairs}
use Rattle.yaml_base.specs.DocTree as doc
use Rattle.yaml_shape.specs.DataView.{items_of}
use Rattle.yaml_shape.specs.PlainData.{PlainData, PlainItems}
use Rattle.yaml_shape.specs.PlainData.{item}
use Rattle.yaml_shape.specs.PlainShape.{PlainShape, identifier_shape, shape_at}
use Rattle.yaml_shape.specs.Validity.{AreDistinct}
use Rattle.yaml_shape.specs.Validity.{names_of}
use Rattle.yaml_meaning.specs.Fields.{Fields, Slots, no_slots}
use Rattle.yaml_meaning.specs.Meaning.{Means}
use Rattle.yaml_meaning.specs.Meaning.{MeanFields, means_field}
use Rattle.yaml_meaning.specs.ScalarShapes.{lent_text}
use Rattle.yaml_write.specs.Outcomes.{string_node}
use Rattle.yaml_printed.specs.Nestings.{items_nestings}
use Rattle.yaml_round.specs.SameOrder.{same_data, same_items}
use Rattle.yaml_round.proofs.ByPlace.{behind, find_at}
use Rattle.yaml_round.proofs.FieldsInOrder.{free_behind, put_behind}
use Rattle.yaml_round.proofs.RenderedTrees.{IsRendered}
use Rattle.yaml_round.proofs.SameOrders.{both}
use Rattle.yaml_round.proofs.ScalarLeaves.{name_leaf}
use Rattle.yaml_round.proofs.ValuesReturn.{word_means}
use Rattle.yaml_round.proofs.DataFound.{DataReturns, FieldsReturn}

-- nothing is above nothing
pub above_none : (n : ℕ) → max 0 n ≡ n
above_none n = omega arith

module _ (table : List PlainShape) (root : DocNode) where
  abbrev Returns : PlainShape → DocNode → (taken : Bool) → PlainData → Type 0
  Returns = DataReturns table root

  -- what a node means that is the same
  pub means_same : (s : PlainShape) (taken : Bool) (m n : DocNode) (v : PlainData) (d : ℕ) → n ≡ m
      → Means table root s m taken v d 0 → Means table root s n taken v d 0
  means_same s taken m n v d eq means = subst (λ n. Means table root s n taken v d 0) (sym eq) means

  -- one field more, in front of those that are left
  pub field_returns : (strict : Bool) (all done rest : Fields) (f : List ℕ × ℕ) (front : Slots) (s : PlainShape)
      (d : PlainData) (ds : PlainItems) (key value : DocNode) (ps ns : DocPairs)
      → all ≡ done ++ f ∷ rest → length front ≡ length done → AreDistinct (names_of all) → is_utf8 f.0 ≡ true
      → IsRendered (string_node None f.0) key → ns ≡ doc.pair key value ps → shape_at table f.1 ≡ Some s
      → (one : Returns s value false d)
      → FieldsReturn table root strict all (front ++ Some one.found ∷ []) rest ps ds
      → FieldsReturn table root strict all front (f ∷ rest) ns (item d ds)
  field_returns strict all done rest f front s d ds key value ps ns split size apart utf8 k is at one later =
      let named = word_means table root identifier_shape false k.0 key (lent_text k.0 f.0) refl refl
      (name_leaf None k.0 f.0 (asked_style f.0) utf8 k.2) k.1 in
      let there : slice_get all (length front) ≡ Some f = rw (split, size) (behind done rest f) in
      let before = put_behind front (no_slots rest) None (Some one.found) in
      let after = append_assoc front (Some one.found ∷ []) (map (λ v. Some v) later.found) in
      let more : MeanFields table root strict all (set (front ++ no_slots (f ∷ rest)) (length front) (Some one.found))
      ps (front ++ map (λ v. Some v) (one.found ∷ later.found)) (items_nestings ds) 0 =
      subst (λ a. MeanFields table root strict all
      (set (front ++ no_slots (f ∷ rest)) (length front) (Some one.found)) ps a (items_nestings ds) 0) after
      (subst (λ b. MeanFields table root strict all b ps
      ((front ++ Some one.found ∷ []) ++ map (λ v. Some v) later.found) (items_nestings ds) 0) (sym before)
      later.means) in
      let whole = means_field named (find_at all (length front) f apart there) (free_behind front (no_slots rest)) at
      one.means more in
      record {
        found = one.found ∷ later.found;
        means = subst (λ ns. MeanFields table root strict all (front ++ no_slots (f ∷ rest)) ns
            (front ++ map (λ v. Some v) (one.found ∷ later.found)) (items_nestings (item d ds)) 0) (sym is)
            (subst (λ k. MeanFields table root strict all (front ++ no_slots (f ∷ rest)) (doc.pair key value ps)
            (front ++ map (λ v. Some v) (one.found ∷ later.found)) k 0)
            (above_none (items_nestings (item d ds))) whole);
        size = ap suc later.size;
        same = both (same_data d one.found) (same_items ds (items_of later.found)) one.same later.same;
      }
