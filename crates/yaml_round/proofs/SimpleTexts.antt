-- Simple data is written without tags.
use Rattle.std.proofs.Common.{◌≡◌, ℕ, ◌&&◌, true, refl, sym, ap, ◌∙◌, subst, List, [], ◌∷◌, ◌++◌, None, Result, Ok}
use Rattle.std.proofs.lemmas.Bool.{and_from, and_parts}
use Rattle.std.proofs.lemmas.List.Folds.{list_all-append}
use Rattle.yaml_base.specs.EmitEvents.{PlainEmit, emit_sequence_end, emit_mapping_end}
use Rattle.yaml_base.specs.EmitTree.{EmitNode, EmitNodes, emit_node, EmitPairs, emit_pair, emit_sequence_node}
use Rattle.yaml_base.specs.EmitTree.{emit_mapping_node, emit_node_events, emit_nodes_events, emit_pairs_events}
use Rattle.yaml_base.specs.declared.error.Cause.{Cause}
use Rattle.yaml_shape.specs.PlainData.{PlainData, any_data, bool_data, char_data, signed_data, unsigned_data, text_data}
use Rattle.yaml_shape.specs.PlainData.{bytes_data, none_data, some_data, unit_data, newtype_data, seq_data, tuple_data}
use Rattle.yaml_shape.specs.PlainData.{map_data, struct_data, variant_data, ignored_data}
use Rattle.yaml_shape.specs.PlainData.{PlainItems, no_items, item, PlainEntries, no_entries, entry}
use Rattle.yaml_shape.specs.PlainShape.{PlainShape, shape_at}
use Rattle.yaml_write.specs.InShape.{inner_shape, element_shape, item_shapes, key_shape, value_shape, named_fields}
use Rattle.yaml_write.specs.Outcomes.{joined, made, string_node}
use Rattle.yaml_write.specs.Written.{written, written_elements, written_items, written_entries, written_fields}
use Rattle.yaml_write.specs.WrittenValue.{pair_node, pair_before}
use Rattle.yaml_printed.specs.WholeTags.{have_whole_tags, has_whole_tag}
use Rattle.yaml_printed.proofs.Outcomes.{same_answer, made_ok, joined_ok}
use Rattle.yaml_printed.proofs.WrittenLeaves.{Whole, WholeItems, WholePairs}
use Rattle.yaml_round.specs.SimpleData.{is_simple, are_simple, entries_are_simple}

joined_whole : (xs ys : List PlainEmit) → have_whole_tags xs ≡ true → have_whole_tags ys ≡ true
    → have_whole_tags (xs ++ ys) ≡ true
joined_whole xs ys h k =
    list_all-append has_whole_tag xs ys ∙ and_from (have_whole_tags xs) (have_whole_tags ys) h k

leaf_whole : {e : EmitNode} (a : EmitNode) → Whole a → ◌≡◌ {A = Result EmitNode Cause} (Ok a) (Ok e) → Whole e
leaf_whole {e} a w h = subst Whole (same_answer a e h) w

list_whole : (e : EmitNode) (es : EmitNodes) → e ≡ emit_sequence_node None es → WholeItems es → Whole e
list_whole e es is w = subst Whole (sym is) (joined_whole (emit_nodes_events es) (emit_sequence_end ∷ []) w refl)

mapping_whole : (e : EmitNode) (es : EmitPairs) → e ≡ emit_mapping_node None es → WholePairs es → Whole e
mapping_whole e es is w = subst Whole (sym is) (joined_whole (emit_pairs_events es) (emit_mapping_end ∷ []) w refl)

one_more : (e : EmitNode) (es all : EmitNodes) → all ≡ emit_node e es → Whole e → WholeItems es → WholeItems all
one_more e es all is w v =
    subst WholeItems (sym is) (joined_whole (emit_node_events e) (emit_nodes_events es) w v)

one_more_pair : (k v : EmitNode) (es all : EmitPairs) → all ≡ emit_pair k v es → Whole k → Whole v → WholePairs es
    → WholePairs all
one_more_pair k v es all is w x y =
    subst WholePairs (sym is)
    (joined_whole (emit_node_events k) (emit_node_events v ++ emit_pairs_events es) w
    (joined_whole (emit_node_events v) (emit_pairs_events es) x y))

module _ (t : List PlainShape) where
  mutual
    pub simple_whole : (d : PlainData) (id : ℕ) (e : EmitNode) → is_simple d ≡ true → written t id None d ≡ Ok e
        → Whole e
    simple_whole (bool_data b) id e s h = leaf_whole _ refl h
    simple_whole (char_data c) id e s h = leaf_whole _ refl h
    simple_whole (signed_data z) id e s h = leaf_whole _ refl h
    simple_whole (unsigned_data n) id e s h = leaf_whole _ refl h
    simple_whole (text_data lent text) id e s h = leaf_whole _ refl h
    simple_whole none_data id e s h = leaf_whole _ refl h
    simple_whole unit_data id e s h = leaf_whole _ refl h
    simple_whole ignored_data id e s h = leaf_whole _ refl h
    simple_whole (newtype_data d) id e s h = simple_whole d (inner_shape (shape_at t id)) e s h
    simple_whole (seq_data ds) id e s h =
        let element = element_shape (shape_at t id) in
        let m = made_ok (emit_sequence_node None) (written_elements t element ds) e h in
        list_whole e m.0 m.2 (elements_whole ds element m.0 s m.1)
    simple_whole (tuple_data ds) id e s h =
        let ids = item_shapes (shape_at t id) in
        let m = made_ok (emit_sequence_node None) (written_items t ids ds) e h in
        list_whole e m.0 m.2 (items_whole ds ids m.0 s m.1)
    simple_whole (map_data es) id e s h =
        let key = key_shape (shape_at t id) in
        let value = value_shape (shape_at t id) in
        let m = made_ok (emit_mapping_node None) (written_entries t key value es) e h in
        mapping_whole e m.0 m.2 (entries_whole es key value m.0 s m.1)
    simple_whole (struct_data ds) id e s h =
        let fields = named_fields (shape_at t id) in
        let m = made_ok (emit_mapping_node None) (written_fields t fields ds) e h in
        mapping_whole e m.0 m.2 (fields_whole ds fields m.0 s m.1)
    simple_whole (any_data v) id e s h = absurd cc
    simple_whole (bytes_data bytes) id e s h = absurd cc
    simple_whole (some_data d) id e s h = absurd cc
    simple_whole (variant_data place d) id e s h = absurd cc

    elements_whole : (ds : PlainItems) (id : ℕ) (es : EmitNodes) → are_simple ds ≡ true
        → written_elements t id ds ≡ Ok es → WholeItems es
    elements_whole no_items id es s h = subst WholeItems (same_answer _ es h) refl
    elements_whole (item d ds) id es s h =
        let p = and_parts (is_simple d) (are_simple ds) s in
        let j = joined_ok emit_node (written t id None d) (written_elements t id ds) es h in
        one_more j.0 j.1 es j.4 (simple_whole d id j.0 p.0 j.2) (elements_whole ds id j.1 p.1 j.3)

    items_whole : (ds : PlainItems) (ids : List ℕ) (es : EmitNodes) → are_simple ds ≡ true
        → written_items t ids ds ≡ Ok es → WholeItems es
    items_whole no_items [] es s h = subst WholeItems (same_answer _ es h) refl
    items_whole no_items (id ∷ ids) es s h = subst WholeItems (same_answer _ es h) refl
    items_whole (item d ds) [] es s h = subst WholeItems (same_answer _ es h) refl
    items_whole (item d ds) (id ∷ ids) es s h =
        let p = and_parts (is_simple d) (are_simple ds) s in
        let j = joined_ok emit_node (written t id None d) (written_items t ids ds) es h in
        one_more j.0 j.1 es j.4 (simple_whole d id j.0 p.0 j.2) (items_whole ds ids j.1 p.1 j.3)

    entries_whole : (es : PlainEntries) (key value : ℕ) (ps : EmitPairs) → entries_are_simple es ≡ true
        → written_entries t key value es ≡ Ok ps → WholePairs ps
    entries_whole no_entries key value ps s h = subst WholePairs (same_answer _ ps h) refl
    entries_whole (entry k v es) key value ps s h =
        let p = and_parts (is_simple k) (is_simple v && entries_are_simple es) s in
        let q = and_parts (is_simple v) (entries_are_simple es) p.1 in
        let both = joined pair_node (written t key None k) (written t value None v) in
        let j = joined_ok pair_before both (written_entries t key value es) ps h in
        let i = joined_ok pair_node (written t key None k) (written t value None v) j.0 j.2 in
        one_more_pair i.0 i.1 j.1 ps (j.4 ∙ ap (λ p. pair_before p j.1) i.4) (simple_whole k key i.0 p.0 i.2)
        (simple_whole v value i.1 q.0 i.3) (entries_whole es key value j.1 q.1 j.3)

    fields_whole : (ds : PlainItems) (fields : List (List ℕ × ℕ)) (ps : EmitPairs) → are_simple ds ≡ true
        → written_fields t fields ds ≡ Ok ps → WholePairs ps
    fields_whole no_items [] ps s h = subst WholePairs (same_answer _ ps h) refl
    fields_whole no_items (f ∷ fs) ps s h = subst WholePairs (same_answer _ ps h) refl
    fields_whole (item d ds) [] ps s h = subst WholePairs (same_answer _ ps h) refl
    fields_whole (item d ds) (f ∷ fs) ps s h =
        let p = and_parts (is_simple d) (are_simple ds) s in
        let name = string_node None f.0 in
        let j = joined_ok pair_before (made (pair_node name) (written t f.1 None d)) (written_fields t fs ds) ps h in
        let i = made_ok (pair_node name) (written t f.1 None d) j.0 j.2 in
        one_more_pair name i.0 j.1 ps (j.4 ∙ ap (λ p. pair_before p j.1) i.2) refl
        (simple_whole d f.1 i.0 p.0 i.1) (fields_whole ds fs j.1 p.1 j.3)
