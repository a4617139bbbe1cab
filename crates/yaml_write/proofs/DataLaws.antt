-- What parts of data are written as, one part after another.
use Rattle.std.proofs.Common.{◌≡◌, ℕ, zero, suc, ◌+◌, ◌<◌, ◌≤◌, ◌∷◌, [], List, length, get_or, drop, Option, None, Ok}
use Rattle.std.proofs.Common.{refl, ap, ◌∙◌, rules, arith, add-one, drop-cons, string_bytes}
use Rattle.std.specs.Prelude.{String, min, Box}
use Rattle.std.specs.declared.alloc.Global.{Global}
use Rattle.yaml_base.specs.EmitTree.{emit_node, no_emit_nodes, no_emit_pairs}
use Rattle.yaml_shape.specs.PlainShape.{PlainShape}
use Rattle.yaml_shape.specs.PlainData.{variant_data}
use Rattle.yaml_shape.specs.DataView.{data_of, items_view, entry_of, entries_view, text_data_of}
use Rattle.yaml_shape.specs.ShapeView.{ids_of, fields_of}
use Rattle.yaml_shape.specs.TextView.{text_bytes}
use Rattle.yaml_shape.specs.declared.data.Data.{Data, Str, Variant, the_lemmas}
use Rattle.yaml_shape.specs.declared.data.Entry.{Entry, out-Entry}
use Rattle.yaml_shape.specs.declared.shape.ShapeId.{ShapeId}
use Rattle.yaml_shape.specs.declared.text.Text.{Text}
use Rattle.yaml_shape.specs.declared.text.Text.TheVariants.{Borrowed, Owned}
use Rattle.yaml_write.specs.Outcomes.{made, joined, string_node}
use Rattle.yaml_write.specs.Written.{written, written_elements, written_items, written_entries, written_fields}
use Rattle.yaml_write.specs.WrittenParts.{written_entry}
use Rattle.yaml_write.specs.WrittenValue.{pair_node, pair_before}

-- a text, lent or owned
pub written-text : (t : List PlainShape) (id : ℕ) (tag : Option (List ℕ)) (text : Text)
    → written t id tag (text_data_of text) ≡ Ok (string_node tag (text_bytes text))
written-text t id tag (Borrowed s) = refl
written-text t id tag (Owned s) = refl

-- a text as data
pub data_of-Str : (text : Text) → data_of (Str text) ≡ text_data_of text
data_of-Str text = search (rules, the_lemmas)

-- a variant as data
pub data_of-Variant : (place : ℕ) (inner : Box Data Global) → data_of (Variant place inner)
    ≡ variant_data place (data_of inner.value)
data_of-Variant place inner = search (rules, the_lemmas)

-- the elements that are left, by the next one
pub elements-left : (t : List PlainShape) (id : ℕ) (ds : List Data) (i : ℕ) (d : Data) → i < length ds → d
    ≡ get_or ds i d
    → written_elements t id (items_view (drop i ds)) ≡ joined emit_node (written t id None (data_of d))
    (written_elements t id (items_view (drop (i + 1) ds)))
elements-left t id ds i d h is =
    let e : drop i ds ≡ d ∷ drop (i + 1) ds = rw (add-one, drop-cons ds i d, ← is) in
    ap (λ xs. written_elements t id (items_view xs)) e

-- the items that are left, by the next one
pub items-left : (t : List PlainShape) (ids : List ShapeId) (ds : List Data) (i : ℕ) (id : ShapeId) (d : Data)
    → i < length ids → i < length ds → id ≡ get_or ids i id → d ≡ get_or ds i d
    → written_items t (ids_of (drop i ids)) (items_view (drop i ds))
    ≡ joined emit_node (written t id.0 None (data_of d))
    (written_items t (ids_of (drop (i + 1) ids)) (items_view (drop (i + 1) ds)))
items-left t ids ds i id d h h' is is' =
    let e : drop i ids ≡ id ∷ drop (i + 1) ids = rw (add-one, drop-cons ids i id, ← is) in
    let e' : drop i ds ≡ d ∷ drop (i + 1) ds = rw (add-one, drop-cons ds i d, ← is') in
    λ k. written_items t (ids_of (e k)) (items_view (e' k))

entry_of-parts : (e : Entry) → entry_of e ≡ (data_of (out-Entry e).key, data_of (out-Entry e).value)
entry_of-parts e = search (rules, the_lemmas)

-- the entries that are left, by the next one
pub entries-left : (t : List PlainShape) (key value : ℕ) (es : List Entry) (i : ℕ) (x : Entry) → i < length es → x
    ≡ get_or es i x
    → written_entries t key value (entries_view (drop i es))
    ≡ joined pair_before (written_entry t key value x) (written_entries t key value (entries_view (drop (i + 1) es)))
entries-left t key value es i x h is =
    let e : drop i es ≡ x ∷ drop (i + 1) es = rw (add-one, drop-cons es i x, ← is) in
    ap (λ xs. written_entries t key value (entries_view xs)) e
    ∙ ap (λ p. joined pair_before (joined pair_node (written t key None p.0) (written t value None p.1))
    (written_entries t key value (entries_view (drop (i + 1) es)))) (entry_of-parts x)

-- the fields that are left, by the next one
pub fields-left : (t : List PlainShape) (fs : List (String Global × ShapeId)) (ds : List Data) (i : ℕ)
    (f : String Global × ShapeId) (d : Data) → i < length fs → i < length ds → f ≡ get_or fs i f → d ≡ get_or ds i d
    → written_fields t (fields_of (drop i fs)) (items_view (drop i ds))
    ≡ joined pair_before (made (pair_node (string_node None (string_bytes f.0))) (written t f.1.0 None (data_of d)))
    (written_fields t (fields_of (drop (i + 1) fs)) (items_view (drop (i + 1) ds)))
fields-left t fs ds i f d h h' is is' =
    let e : drop i fs ≡ f ∷ drop (i + 1) fs = rw (add-one, drop-cons fs i f, ← is) in
    let e' : drop i ds ≡ d ∷ drop (i + 1) ds = rw (add-one, drop-cons ds i d, ← is') in
    λ k. written_fields t (fields_of (e k)) (items_view (e' k))

no-items : (t : List PlainShape) (ids : List ShapeId) → written_items t (ids_of ids) (items_view []) ≡ Ok no_emit_nodes
no-items t [] = refl
no-items t (id ∷ ids) = refl

-- no items are left once the shapes or the items are at their end
pub items-done : (t : List PlainShape) (ids : List ShapeId) (ds : List Data) (i : ℕ) → min (length ids) (length ds) ≤ i
    → written_items t (ids_of (drop i ids)) (items_view (drop i ds)) ≡ Ok no_emit_nodes
items-done t [] ds zero h = refl
items-done t [] ds (suc i) h = refl
items-done t (id ∷ ids) [] zero h = refl
items-done t (id ∷ ids) [] (suc i) h = no-items t (drop i ids)
items-done t (id ∷ ids) (d ∷ ds) zero h = absurd (omega arith)
items-done t (id ∷ ids) (d ∷ ds) (suc i) h = items-done t ids ds i (omega arith)

no-fields : (t : List PlainShape) (fs : List (String Global × ShapeId))
    → written_fields t (fields_of fs) (items_view []) ≡ Ok no_emit_pairs
no-fields t [] = refl
no-fields t (f ∷ fs) = refl

-- no fields are left once the names or the items are at their end
pub fields-done : (t : List PlainShape) (fs : List (String Global × ShapeId)) (ds : List Data) (i : ℕ)
    → min (length fs) (length ds) ≤ i
    → written_fields t (fields_of (drop i fs)) (items_view (drop i ds)) ≡ Ok no_emit_pairs
fields-done t [] ds zero h = refl
fields-done t [] ds (suc i) h = refl
fields-done t (f ∷ fs) [] zero h = refl
fields-done t (f ∷ fs) [] (suc i) h = no-fields t (drop i fs)
fields-done t (f ∷ fs) (d ∷ ds) zero h = absurd (omega arith)
fields-done t (f ∷ fs) (d ∷ ds) (suc i) h = fields-done t fs ds i (omega arith)
