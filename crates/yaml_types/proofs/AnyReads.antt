-- How values of any kind that are read of a tape are put together.
use Rattle.std.proofs.Common.{ℕ, suc, List, [], ◌∷◌, ◌++◌, ◌+◌, ◌≡◌, ◌≤◌, refl, ap, sym, ◌∙◌, subst, arith, map}
use Rattle.std.proofs.Common.{true, false}
use Rattle.std.specs.Prelude.{Option, Some, None, Ok, IfSome, is_some}
use Rattle.std.specs.Str.{IsUtf8}
use Rattle.std.proofs.lemmas.Str.{is_utf8-from_IsUtf8}
use Rattle.yaml_base.specs.DocTree.{list, mapping, events_of_nodes, events_of_pairs}
use Rattle.yaml_base.specs.Kinds.{kind_of}
use Rattle.yaml_base.specs.PlainDocEvent.{sequence_begins, sequence_ends, mapping_begins, mapping_ends}
use Rattle.yaml_base.specs.declared.event.ScalarStyle.{ScalarStyle}
use Rattle.yaml_base.specs.declared.event.ScalarStyle.TheVariants as style
use Rattle.yaml_shape.specs.PlainData.{PlainItems, PlainEntries, any_data, no_items, item, no_entries, entry}
use Rattle.yaml_shape.specs.PlainShape.{any_shape}
use Rattle.yaml_meaning.specs.AnyData.{tree_in, trees_in, pairs_in_entries}
use Rattle.yaml_meaning.specs.Meaning.{Means, means_node, means_list, means_mapping, means_any_list}
use Rattle.yaml_meaning.specs.Meaning.{means_any_mapping}
use Rattle.yaml_meaning.specs.ScalarAny.{any_found}
use Rattle.yaml_meaning.specs.ScalarFound.{found_kind}
use Rattle.yaml_meaning.specs.ScalarSorts.{is_plain}
use Rattle.yaml_tape.specs.OnDocs.{bare, docs_from}
use Rattle.yaml_tape.specs.declared.entry.Entry.{Entry}
use Rattle.yaml_tape.specs.declared.tape.Tape.{Tape}
use Rattle.yaml_tree.proofs.Callers.{value_at-has_key, with_pair-new, pair_list-with_last, keys_distinct-value}
use Rattle.yaml_tree.specs.Mapping.{keys_distinct, value_at, with_pair, has_key}
use Rattle.yaml_tree.specs.Tree.{Tree, Trees, Pairs, no_pairs, pair, pair_list, string, sequence, no_trees, tree}
use Rattle.yaml_tree.specs.Tree as tree
use Rattle.yaml_tree.specs.Valid.{values_of, pairs_of, ValueTrees, ValuePairs}
use Rattle.yaml_tree.specs.View.{tree_of, trees_of}
use Rattle.yaml_tree.specs.declared.value.Value.{Value}
use Rattle.yaml_tree.specs.declared.value.Value.TheVariants as V
use Rattle.yaml_types.specs.AnyNodes.{AnyShaped, IsValue, IsTree, ArePairs, PairsBefore}
use Rattle.yaml_types.specs.Built.{BuiltValue}
use Rattle.yaml_types.specs.BuiltParts.{BuiltItems}
use Rattle.yaml_types.specs.NodeMeans.{NodeMeans, ItemsMean, BuiltPairs, PairsFront}
use Rattle.yaml_types.specs.Start.{leaf_start}
use Rattle.yaml_types.specs.Tables.{IsShapeIn}
use Rattle.yaml_types.proofs.LeafReads.{Stands}
use Rattle.yaml_types.proofs.NodeReads.{scalar_means, means_as, pairs_start, pairs_next, pairs_all, closed}
use Rattle.yaml_types.proofs.TableLaws.{leaf_shaped}

-- a scalar
pub plain_means : (t : Tape) (place : ℕ) (e : Entry) (text : List ℕ) (r : Option Value) → Stands t place e
    → is_plain e.style ≡ true → IsUtf8 (bare t e).text → text ≡ (bare t e).text
    → IfSome r (λ v. any_found (found_kind text (kind_of text)) ≡ Ok (tree_of v))
    → IfSome r (λ v. (depth : ℕ) → NodeMeans AnyShaped IsValue t place (place + 1) depth v)
plain_means t place e text None there plain utf8 same says = tt
plain_means t place e text (Some v) there plain utf8 same says = λ depth.
    scalar_means AnyShaped IsValue t place (place + 1) depth v (bare t e) any_shape (any_data (tree_of v))
    (λ table r h. h) refl refl there
    (rw (is_utf8-from_IsUtf8 (bare t e).text utf8) (rw plain (rw (sym same) (rw says refl)))) refl

not_plain : (s : ScalarStyle) → (s ≡ style.Plain → ⊥) → is_plain s ≡ false
not_plain style.Plain h = absurd (h refl)
not_plain style.SingleQuoted h = refl
not_plain style.DoubleQuoted h = refl
not_plain style.Literal h = refl
not_plain style.Folded h = refl

pub quoted_means : (t : Tape) (place : ℕ) (e : Entry) (text : List ℕ) (r : Option Value) → Stands t place e
    → (e.style ≡ style.Plain → ⊥) → IsUtf8 (bare t e).text → text ≡ (bare t e).text
    → IfSome r (λ v. tree_of v ≡ string text)
    → IfSome r (λ v. (depth : ℕ) → NodeMeans AnyShaped IsValue t place (place + 1) depth v)
quoted_means t place e text None there quoted utf8 same says = tt
quoted_means t place e text (Some v) there quoted utf8 same says = λ depth.
    scalar_means AnyShaped IsValue t place (place + 1) depth v (bare t e) any_shape (any_data (tree_of v))
    (λ table r h. h) refl refl there
    (rw (is_utf8-from_IsUtf8 (bare t e).text utf8) (rw (not_plain e.style quoted) (rw (sym same)
    (rw (sym says) refl)))) refl

-- a sequence
trees_built : (ds : PlainItems) (vs : List Value) → BuiltItems IsValue ds vs → trees_in ds ≡ trees_of vs
trees_built no_items [] h = refl
trees_built no_items (v ∷ vs) h = absurd h
trees_built (item d ds) [] h = absurd h
trees_built (item d ds) (v ∷ vs) h = λ i. tree (tree_in (h.0 i)) (trees_built ds vs h.1 i)

pub any_list_means : (t : Tape) (from first last to depth inner : ℕ) (vs : List Value) (s : ValueTrees)
    → docs_from t from ≡ Some (sequence_begins None) ∷ docs_from t first
    → ItemsMean AnyShaped IsValue t first last inner vs → docs_from t last ≡ Some sequence_ends ∷ docs_from t to
    → suc inner ≤ depth → values_of s ≡ trees_of vs → NodeMeans AnyShaped IsValue t from to depth (V.Sequence s)
any_list_means t from first last to depth inner vs s b m e d made = record {
  node = list None m.nodes;
  found = any_data (sequence (trees_in m.found));
  nestings = suc m.nestings;
  events = b ∙ ap (λ y. Some (sequence_begins None) ∷ y)
      (m.events ∙ ap (λ y. map Some (events_of_nodes m.nodes) ++ y) e
      ∙ closed (events_of_nodes m.nodes) sequence_ends (docs_from t to));
  means = λ table r root k.
      subst (λ y. Means table root y (list None m.nodes) false (any_data (sequence (trees_in m.found)))
      (suc m.nestings) 0) (sym k)
      (means_node refl refl (means_list (means_any_list (m.means table any_shape root refl))));
  within = omega (arith, m.within, d);
  value = ap (λ ts. any_data (sequence ts)) (trees_built m.found vs m.value ∙ sym made);
}

-- a mapping
pairs_built : (ds : PlainEntries) (ps : Pairs) → BuiltPairs IsTree IsTree ds (pair_list ps) → pairs_in_entries ds ≡ ps
pairs_built no_entries no_pairs h = refl
pairs_built no_entries (pair k v ps) h = absurd h
pairs_built (entry d e ds) no_pairs h = absurd h
pairs_built (entry d e ds) (pair k v ps) h = λ i. pair (tree_in (h.0 i)) (tree_in (h.1 i)) (pairs_built ds ps h.2 i)

pub any_mapping_means : (t : Tape) (from first last to depth inner : ℕ) (m : ValuePairs)
    → docs_from t from ≡ Some (mapping_begins None) ∷ docs_from t first → ArePairs t first last inner (pairs_of m)
    → docs_from t last ≡ Some mapping_ends ∷ docs_from t to → suc inner ≤ depth
    → NodeMeans AnyShaped IsValue t from to depth (V.Mapping m)
any_mapping_means t from first last to depth inner m b f e d =
    let same = pairs_built f.found (pairs_of m) f.values in
    let distinct : keys_distinct (pairs_in_entries f.found) ≡ true =
    ap keys_distinct same ∙ (keys_distinct-value (pairs_of m) m.1).0 in
    record {
      node = mapping None f.pairs;
      found = any_data (tree.mapping (pairs_in_entries f.found));
      nestings = suc f.nestings;
      events = b ∙ ap (λ y. Some (mapping_begins None) ∷ y)
          (f.events ∙ ap (λ y. map Some (events_of_pairs f.pairs) ++ y) e
          ∙ closed (events_of_pairs f.pairs) mapping_ends (docs_from t to));
      means = λ table r root k.
          subst (λ y. Means table root y (mapping None f.pairs) false
          (any_data (tree.mapping (pairs_in_entries f.found))) (suc f.nestings) 0) (sym k)
          (means_node refl refl (means_mapping (means_any_mapping (f.means table any_shape any_shape root refl refl)
          distinct)));
      within = omega (arith, f.within, d);
      value = ap (λ ps. any_data (tree.mapping ps)) same;
    }

-- one more pair
new_key : (k : Tree) (ps : Pairs) → None ≡ value_at k ps → has_key k ps ≡ false
new_key k ps none = sym (value_at-has_key k ps) ∙ ap is_some (sym none)

as_tree : (t : Tape) (from to depth : ℕ) (v : Value) → NodeMeans AnyShaped IsValue t from to depth v
    → NodeMeans AnyShaped IsTree t from to depth (tree_of v)
as_tree t from to depth v n =
    means_as AnyShaped IsValue t AnyShaped IsTree from to depth v (tree_of v) (λ table s i. i) (λ d i. i) n

pub pair_added : (t : Tape) (from p q r depth : ℕ) (k v : Value) (before after : Pairs)
    → PairsBefore t from p depth before
    → NodeMeans AnyShaped IsValue t p q depth k → NodeMeans AnyShaped IsValue t q r depth v
    → None ≡ value_at (tree_of k) before → after ≡ with_pair (tree_of k) (tree_of v) before
    → PairsBefore t from r depth after
pair_added t from p q r depth k v before after f m n none put =
    let last : pair_list after ≡ pair_list before ++ (tree_of k, tree_of v) ∷ [] =
    ap pair_list (put ∙ with_pair-new (tree_of k) (tree_of v) before (new_key (tree_of k) before none))
    ∙ pair_list-with_last before (tree_of k) (tree_of v) in
    subst (λ z. PairsFront AnyShaped AnyShaped IsTree IsTree t from r depth z) (sym last)
    (pairs_next AnyShaped AnyShaped IsTree IsTree t from p q r depth (tree_of k) (tree_of v) (pair_list before) f
    (as_tree t p q depth k m) (as_tree t q r depth v n))

pub pairs_begun : (t : Tape) (p depth : ℕ) (ps : Pairs) → ps ≡ no_pairs → PairsBefore t p p depth ps
pairs_begun t p depth ps e =
    subst (λ qs. PairsBefore t p p depth qs) (sym e) (pairs_start AnyShaped AnyShaped IsTree IsTree t p depth)

pub pairs_read : (t : Tape) (from to depth : ℕ) (ps : Pairs) → PairsBefore t from to depth ps
    → ArePairs t from to depth ps
pairs_read t from to depth ps f = pairs_all AnyShaped AnyShaped IsTree IsTree t from to depth (pair_list ps) f

-- what is read so, as the type has it
pub value_means : (t : Tape) (from to depth : ℕ) (v : Value) → NodeMeans AnyShaped IsValue t from to depth v
    → NodeMeans (IsShapeIn (leaf_start any_shape)) BuiltValue t from to depth v
value_means t from to depth v n =
    means_as AnyShaped IsValue t (IsShapeIn (leaf_start any_shape)) BuiltValue from to depth v v
    (leaf_shaped any_shape tt) (λ d h. subst (λ x. BuiltValue x v) (sym h) refl) n
