-- A value as it is written means that value under the shape of any value.
use Rattle.std.specs.Prelude.{Bool, true, false, not, ◌&&◌, option_and_then}
use Rattle.std.specs.Option.{is_some}
use Rattle.std.proofs.Common.{◌≡◌, ℕ, List, Option, Some, None, Ok, refl, sym, ap, ◌∙◌, subst}
use Rattle.yaml_base.specs.DocTree.{DocNode, DocNodes, DocPairs, word}
use Rattle.yaml_base.specs.DocTree as doc
use Rattle.yaml_base.specs.EmitTree.{EmitNode, EmitNodes, EmitPairs, emit_scalar_node, emit_sequence_node}
use Rattle.yaml_base.specs.EmitTree.{emit_mapping_node, no_emit_nodes, emit_node, no_emit_pairs, emit_pair}
use Rattle.yaml_base.specs.LocalName.{local_name}
use Rattle.yaml_base.specs.PlainDocEvent.{PlainDocEvent, a_scalar, sequence_begins, mapping_begins}
use Rattle.yaml_base.specs.PlainEvent.{PlainScalar}
use Rattle.yaml_base.specs.Renders.{RendersScalar}
use Rattle.yaml_base.specs.declared.emitter.AskedStyle.{AskedStyle}
use Rattle.yaml_shape.specs.PlainShape.{PlainShape, any_shape}
use Rattle.yaml_shape.specs.PlainData.{PlainData, PlainItems, PlainEntries, any_data, no_items, item, no_entries, entry}
use Rattle.yaml_tree.specs.EqualLaws.{tree_eq-refl}
use Rattle.yaml_tree.specs.Mapping.{keys_distinct}
use Rattle.yaml_tree.specs.Tag.{tag_name, tag_eq, is_tag}
use Rattle.yaml_tree.specs.Tree.{Tree, null, boolean, number, string, sequence, mapping, tagged, Trees, no_trees, tree}
use Rattle.yaml_tree.specs.Tree.{Pairs, no_pairs, pair}
use Rattle.yaml_tree.specs.Valid.{is_value, are_values, are_pairs}
use Rattle.yaml_meaning.specs.AnyData.{trees_in, pairs_in_entries}
use Rattle.yaml_meaning.specs.Handing.{as_is, any_by, handed, early}
use Rattle.yaml_meaning.specs.Meaning.{Means, means_node, means_tagged, means_scalar, means_list, means_mapping}
use Rattle.yaml_meaning.specs.Meaning.{means_any_list, means_any_mapping, MeanEach, means_none, means_more}
use Rattle.yaml_meaning.specs.Meaning.{MeanPairs, means_no_pairs, means_pair}
use Rattle.yaml_meaning.specs.NodeTags.{tag_in}
use Rattle.yaml_meaning.specs.ScalarShapes.{scalar_answer}
use Rattle.yaml_write.specs.LocalTags.{value_tag}
use Rattle.yaml_write.specs.Outcomes.{Outcome, joined}
use Rattle.yaml_write.specs.WrittenValue.{written_value, written_values, written_pairs, pair_node, pair_before}
use Rattle.yaml_round.specs.Fits.{tree_fits, trees_fit, pairs_fit, begins_with_two}
use Rattle.yaml_printed.specs.Nestings.{tree_nestings, trees_nestings, pairs_nestings}
use Rattle.yaml_round.specs.SameOrder.{same_tree, same_trees, same_pairs}
use Rattle.yaml_round.proofs.LocalNames.{local_name-value, tag_eq-name}
use Rattle.yaml_round.proofs.Outcomes.{same_answer, made_ok, joined_ok, tag_of, rendered_tag}
use Rattle.yaml_round.proofs.RenderedTrees.{IsRendered, AreRendered, PairsAreRendered}
use Rattle.yaml_round.proofs.SameOrders.{both, first, second, distinct_again}
use Rattle.yaml_round.proofs.ScalarLeaves.{any_null, any_bool, any_number, any_string}

-- under a tag from above, or under none, a node of any value is what it is by its kind
pub any_as_is : (tag : Option (List ℕ)) (e : PlainDocEvent) → tag_in e ≡ tag → handed any_shape (is_some tag) e ≡ as_is
any_as_is None e h = ap (λ o. any_by (option_and_then local_name o)) h
any_as_is (Some own) e h = refl

-- what is written under a tag has it
pub value_has_tag : (own : List ℕ) (t : Tree) (e : EmitNode) → written_value (Some own) t ≡ Ok e → tag_of e ≡ Some own
value_has_tag own null e h = sym (ap tag_of (same_answer _ e h))
value_has_tag own (boolean b) e h = sym (ap tag_of (same_answer _ e h))
value_has_tag own (number z) e h = sym (ap tag_of (same_answer _ e h))
value_has_tag own (string text) e h = sym (ap tag_of (same_answer _ e h))
value_has_tag own (sequence ts) e h = ap tag_of (made_ok (emit_sequence_node (Some own)) (written_values ts) e h).2
value_has_tag own (mapping ps) e h = ap tag_of (made_ok (emit_mapping_node (Some own)) (written_pairs ps) e h).2
value_has_tag own (tagged s t) e h = absurd cc

-- a denial
pub opposite : (b : Bool) → not b ≡ true → b ≡ false
opposite true h = absurd cc
opposite false h = refl

module _ (table : List PlainShape) (root : DocNode) where
  -- how a value is read back
  pub record ValueReturns (n : DocNode) (taken : Bool) (t : Tree) : Type 0 where
    pub found : Tree
    pub means : Means table root any_shape n taken (any_data found) (tree_nestings t) 0
    pub same : same_tree t found ≡ true

  pub record ValuesReturn (ns : DocNodes) (ts : Trees) : Type 0 where
    pub found : PlainItems
    pub means : MeanEach table root any_shape ns found (trees_nestings ts) 0
    pub same : same_trees ts (trees_in found) ≡ true

  pub record PairsReturn (ns : DocPairs) (ps : Pairs) : Type 0 where
    pub found : PlainEntries
    pub means : MeanPairs table root any_shape any_shape ns found (pairs_nestings ps) 0
    pub same : same_pairs ps (pairs_in_entries found) ≡ true

  -- a scalar means what it gives
  pub word_means : (s : PlainShape) (taken : Bool) (w : PlainScalar) (n : DocNode) (v : PlainData) → early s ≡ None
      → handed s taken (a_scalar w) ≡ as_is → scalar_answer s taken w ≡ Ok v → n ≡ word w
      → Means table root s n taken v 0 0
  word_means s taken w n v e h a is =
      subst (λ n. Means table root s n taken v 0 0) (sym is) (means_node e h (means_scalar a))

  leaf_means : (tag : Option (List ℕ)) (text : List ℕ) (style : AskedStyle) (e : EmitNode) (n : DocNode)
      (t : Tree) → ◌≡◌ {A = Outcome} (Ok (emit_scalar_node tag text style)) (Ok e) → IsRendered e n
      → ((w : PlainScalar) → RendersScalar tag text style w
      → scalar_answer any_shape (is_some tag) w ≡ Ok (any_data t))
      → Means table root any_shape n (is_some tag) (any_data t) 0 0
  leaf_means tag text style e n t h r answer =
      let r : IsRendered (emit_scalar_node tag text style) n =
      subst (λ e. IsRendered e n) (sym (same_answer (emit_scalar_node tag text style) e h)) r in
      word_means any_shape (is_some tag) r.0 n (any_data t) refl (any_as_is tag (a_scalar r.0) r.2.same_tag)
      (answer r.0 r.2) r.1

  mutual
    pub value_returns : (tag : Option (List ℕ)) (t : Tree) (e : EmitNode) (n : DocNode) → is_value t ≡ true
        → tree_fits t ≡ true → written_value tag t ≡ Ok e → IsRendered e n → ValueReturns n (is_some tag) t
    value_returns tag null e n is fits h r = record {
      found = null;
      means = leaf_means tag _ _ e n null h r (λ w s. any_null tag w s);
      same = refl;
    }
    value_returns tag (boolean b) e n is fits h r = record {
      found = boolean b;
      means = leaf_means tag _ _ e n (boolean b) h r (λ w s. any_bool tag w b s);
      same = tree_eq-refl (boolean b);
    }
    value_returns tag (number z) e n is fits h r = record {
      found = number z;
      means = leaf_means tag _ _ e n (number z) h r (λ w s. any_number tag w z is s);
      same = tree_eq-refl (number z);
    }
    value_returns tag (string text) e n is fits h r = record {
      found = string text;
      means = leaf_means tag _ _ e n (string text) h r (λ w s. any_string tag w text is s);
      same = tree_eq-refl (string text);
    }
    value_returns tag (sequence ts) e n is fits h r =
        let m = made_ok (emit_sequence_node tag) (written_values ts) e h in
        let r : IsRendered (emit_sequence_node tag m.0) n = subst (λ e. IsRendered e n) m.2 r in
        let all = values_return ts m.0 r.0 is fits m.1 r.2 in
        record {
          found = sequence (trees_in all.found);
          means = subst (λ n. Means table root any_shape n (is_some tag) (any_data (sequence (trees_in all.found)))
              (tree_nestings (sequence ts)) 0) (sym r.1)
              (means_node refl (any_as_is tag (sequence_begins tag) refl) (means_list (means_any_list all.means)));
          same = all.same;
        }
    value_returns tag (mapping ps) e n is fits h r =
        let m = made_ok (emit_mapping_node tag) (written_pairs ps) e h in
        let r : IsRendered (emit_mapping_node tag m.0) n = subst (λ e. IsRendered e n) m.2 r in
        let all = pairs_return ps m.0 r.0 (second (keys_distinct ps) (are_pairs ps) is) fits m.1 r.2 in
        let apart =
        distinct_again ps (pairs_in_entries all.found) all.same (first (keys_distinct ps) (are_pairs ps) is) in
        record {
          found = mapping (pairs_in_entries all.found);
          means =
              subst (λ n. Means table root any_shape n (is_some tag) (any_data (mapping (pairs_in_entries all.found)))
              (tree_nestings (mapping ps)) 0) (sym r.1)
              (means_node refl (any_as_is tag (mapping_begins tag) refl)
              (means_mapping (means_any_mapping all.means apart)));
          same = all.same;
        }
    value_returns None (tagged s t) e n is fits h r =
        let loose = opposite (begins_with_two s) (first (not (begins_with_two s)) (tree_fits t) fits) in
        let one = value_returns (Some (value_tag s)) t e n (second (is_tag s) (is_value t) is)
        (second (not (begins_with_two s)) (tree_fits t) fits) h r in
        let named = ap (option_and_then local_name) (rendered_tag e n r ∙ value_has_tag (value_tag s) t e h)
        ∙ local_name-value s (first (is_tag s) (is_value t) is) loose in
        record {
          found = tagged (tag_name s) one.found;
          means = means_node refl (ap any_by named) (means_tagged one.means);
          same = both (tag_eq s (tag_name s)) (same_tree t one.found) (tag_eq-name s loose) one.same;
        }
    value_returns (Some own) (tagged s t) e n is fits h r = absurd cc

    values_return : (ts : Trees) (es : EmitNodes) (ns : DocNodes) → are_values ts ≡ true → trees_fit ts ≡ true
        → written_values ts ≡ Ok es → AreRendered es ns → ValuesReturn ns ts
    values_return no_trees es ns is fits h r =
        let r : ns ≡ doc.no_nodes = subst (λ es. AreRendered es ns) (sym (same_answer no_emit_nodes es h)) r in
        record {
          found = no_items;
          means = subst (λ ns. MeanEach table root any_shape ns no_items 0 0) (sym r) means_none;
          same = refl;
        }
    values_return (tree t ts) es ns is fits h r =
        let j = joined_ok emit_node (written_value None t) (written_values ts) es h in
        let r : AreRendered (emit_node j.0 j.1) ns = subst (λ es. AreRendered es ns) j.4 r in
        let one = value_returns None t j.0 r.0 (first (is_value t) (are_values ts) is)
        (first (tree_fits t) (trees_fit ts) fits) j.2 r.3 in
        let all = values_return ts j.1 r.1 (second (is_value t) (are_values ts) is)
        (second (tree_fits t) (trees_fit ts) fits) j.3 r.4 in
        record {
          found = item (any_data one.found) all.found;
          means = subst (λ ns. MeanEach table root any_shape ns (item (any_data one.found) all.found)
              (trees_nestings (tree t ts)) 0) (sym r.2) (means_more one.means all.means);
          same = both (same_tree t one.found) (same_trees ts (trees_in all.found)) one.same all.same;
        }

    pairs_return : (ps : Pairs) (es : EmitPairs) (ns : DocPairs) → are_pairs ps ≡ true → pairs_fit ps ≡ true
        → written_pairs ps ≡ Ok es → PairsAreRendered es ns → PairsReturn ns ps
    pairs_return no_pairs es ns is fits h r =
        let r : ns ≡ doc.no_pairs = subst (λ es. PairsAreRendered es ns) (sym (same_answer no_emit_pairs es h)) r in
        record {
          found = no_entries;
          means = subst (λ ns. MeanPairs table root any_shape any_shape ns no_entries 0 0) (sym r) means_no_pairs;
          same = refl;
        }
    pairs_return (pair k v ps) es ns is fits h r =
        let j = joined_ok pair_before (joined pair_node (written_value None k) (written_value None v))
        (written_pairs ps)
        es h in
        let i = joined_ok pair_node (written_value None k) (written_value None v) j.0 j.2 in
        let made : es ≡ emit_pair i.0 i.1 j.1 = j.4 ∙ ap (λ p. pair_before p j.1) i.4 in
        let r : PairsAreRendered (emit_pair i.0 i.1 j.1) ns = subst (λ es. PairsAreRendered es ns) made r in
        let is' = second (is_value k) (is_value v && are_pairs ps) is in
        let fits' = second (tree_fits k) (tree_fits v && pairs_fit ps) fits in
        let key = value_returns None k i.0 r.0 (first (is_value k) (is_value v && are_pairs ps) is)
        (first (tree_fits k) (tree_fits v && pairs_fit ps) fits) i.2 r.4 in
        let value = value_returns None v i.1 r.1 (first (is_value v) (are_pairs ps) is')
        (first (tree_fits v) (pairs_fit ps) fits') i.3 r.5 in
        let all = pairs_return ps j.1 r.2 (second (is_value v) (are_pairs ps) is')
        (second (tree_fits v) (pairs_fit ps) fits') j.3 r.6 in
        record {
          found = entry (any_data key.found) (any_data value.found) all.found;
          means = subst (λ ns. MeanPairs table root any_shape any_shape ns
              (entry (any_data key.found) (any_data value.found) all.found) (pairs_nestings (pair k v ps)) 0) (sym r.3)
              (means_pair key.means value.means all.means);
          same = both (same_tree k key.found) (same_tree v value.found && same_pairs ps (pairs_in_entries all.found))
              key.same
              (both (same_tree v value.found) (same_pairs ps (pairs_in_entries all.found)) value.same all.same);
        }
