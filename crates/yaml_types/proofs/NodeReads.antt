-- How what is read of nodes is put together.
use Rattle.std.proofs.Common.{ℕ, zero, suc, List, [], ◌∷◌, ◌++◌, ◌+◌, ◌≡◌, ◌≤◌, refl, ap, sym, ◌∙◌, subst, arith}
use Rattle.std.proofs.Common.{false, true, drop, map, max, append_assoc}
use Rattle.std.specs.Prelude.{Option, Some, None, Ok, slice_get, unwrap_or}
use Rattle.std.proofs.lemmas.Option.{none-some}
use Rattle.std.proofs.lemmas.List.{map-append, append-nil}
use Rattle.std.specs.declared.cmp.Ordering.{Ordering}
use Rattle.std.specs.BTreeMap.{insert_entry}
use Rattle.yaml_base.specs.PlainEvent.{PlainScalar}
use Rattle.yaml_base.specs.DocTree.{DocNode, word, list, mapping, no_nodes, node, no_pairs, pair}
use Rattle.yaml_base.specs.DocTree.{events_of, events_of_nodes, events_of_pairs, first_event, nothing, reference}
use Rattle.yaml_base.specs.PlainDocEvent.{PlainDocEvent, a_scalar, sequence_begins, sequence_ends, mapping_begins}
use Rattle.yaml_base.specs.PlainDocEvent.{mapping_ends}
use Rattle.yaml_shape.specs.PlainData.{PlainData, PlainEntries, seq_data, map_data, no_items, item, no_entries, entry}
use Rattle.yaml_shape.specs.PlainData.{some_data}
use Rattle.yaml_shape.specs.PlainShape.{PlainShape}
use Rattle.yaml_meaning.specs.Handing.{early, handed, as_is, is_content}
use Rattle.yaml_meaning.specs.Meaning.{Means, means_node, means_scalar, means_list, means_mapping, means_seq}
use Rattle.yaml_meaning.specs.Meaning.{means_map, means_none, means_more, means_no_pairs, means_pair, means_some}
use Rattle.yaml_meaning.specs.ScalarShapes.{scalar_answer}
use Rattle.yaml_tape.specs.OnDocs.{docs_from, doc_by}
use Rattle.yaml_tape.specs.declared.tape.Tape.{Tape}
use Rattle.yaml_tape.specs.declared.entry.Entry.{Entry}
use Rattle.yaml_types.specs.BuiltParts.{BuiltSeq, BuiltEntries, BuiltMap, BuiltOption}
use Rattle.yaml_types.specs.Inserted.{inserted_pairs}
use Rattle.yaml_types.specs.NodeMeans.{Shaped, NodeMeans, ItemsMean, PairsMean, ItemsFront, PairsFront, BuiltPairs}
use Rattle.yaml_types.specs.NodeMeans.{SeqShaped, MapShaped, OptionShaped}

-- the entry in a place is the first from there on
pub drop_get : (es : List Entry) (p : ℕ) (e : Entry) → slice_get es p ≡ Some e → drop p es ≡ e ∷ drop (suc p) es
drop_get [] zero e h = absurd (none-some _ h)
drop_get [] (suc p) e h = absurd (none-some _ h)
drop_get (x ∷ es) zero e h = ap (λ o. unwrap_or o x ∷ es) h
drop_get (x ∷ es) (suc p) e h = drop_get es p e h

pub next_doc : (t : Tape) (p q : ℕ) (e : Entry) → slice_get t.entries.items p ≡ Some e → q ≡ p + 1
    → docs_from t p ≡ doc_by t.text.now t.arena.items t.names.items e ∷ docs_from t q
next_doc t p q e h k =
    let next : suc p ≡ q = omega (arith, k) in
    let doc = doc_by t.text.now t.arena.items t.names.items in
    subst (λ z. docs_from t p ≡ doc e ∷ docs_from t z) next (ap (map doc) (drop_get t.entries.items p e h))

-- events of one part and those of another, and what is left
pub two : (a b : List PlainDocEvent) (d : List (Option PlainDocEvent))
    → map Some a ++ (map Some b ++ d) ≡ map Some (a ++ b) ++ d
two a b d = sym (append_assoc (map Some a) (map Some b) d) ∙ ap (λ z. z ++ d) (sym (map-append Some a b))

-- events of a collection, of which its begin was read
pub closed : (a : List PlainDocEvent) (e : PlainDocEvent) (d : List (Option PlainDocEvent))
    → map Some a ++ (Some e ∷ d) ≡ map Some (a ++ e ∷ []) ++ d
closed a e d = two a (e ∷ []) d

module _ {T : Type 0} (shaped : Shaped) (built : PlainData → T → Type 0) (t : Tape) where
  -- a scalar
  pub scalar_means : (from to depth : ℕ) (x : T) (w : PlainScalar) (s : PlainShape) (v : PlainData)
      → ((table : List PlainShape) (r : PlainShape) → shaped table r → r ≡ s)
      → early s ≡ None → handed s false (a_scalar w) ≡ as_is
      → docs_from t from ≡ Some (a_scalar w) ∷ docs_from t to → scalar_answer s false w ≡ Ok v → built v x
      → NodeMeans shaped built t from to depth x
  scalar_means from to depth x w s v only e h events answer value = record {
    node = word w;
    found = v;
    nestings = 0;
    events = events;
    means = λ table r root k. subst (λ y. Means table root y (word w) false v 0 0) (sym (only table r k))
        (means_node e h (means_scalar answer));
    within = omega arith;
    value = value;
  }

  -- the same value in another form, or under fewer shapes
  pub means_as : {B : Type 0} (fewer : Shaped) (other : PlainData → B → Type 0) (from to depth : ℕ) (x : T) (y : B)
      → ((table : List PlainShape) (s : PlainShape) → fewer table s → shaped table s)
      → ((d : PlainData) → built d x → other d y) → NodeMeans shaped built t from to depth x
      → NodeMeans fewer other t from to depth y
  means_as fewer other from to depth x y less f n = record {
    node = n.node;
    found = n.found;
    nestings = n.nestings;
    events = n.events;
    means = λ table s root k. n.means table s root (less table s k);
    within = n.within;
    value = f n.found n.value;
  }

  -- no items, and one more
  pub items_none : (p depth : ℕ) → ItemsMean shaped built t p p depth []
  items_none p depth = record {
    nodes = no_nodes;
    found = no_items;
    nestings = 0;
    events = refl;
    means = λ table s root k. means_none;
    within = omega arith;
    value = tt;
  }

  pub items_more : (p q r depth : ℕ) (x : T) (xs : List T) → NodeMeans shaped built t p q depth x
      → ItemsMean shaped built t q r depth xs → ItemsMean shaped built t p r depth (x ∷ xs)
  items_more p q r depth x xs n m = record {
    nodes = node n.node m.nodes;
    found = item n.found m.found;
    nestings = max n.nestings m.nestings;
    events = n.events ∙ ap (λ y. map Some (events_of n.node) ++ y) m.events
        ∙ two (events_of n.node) (events_of_nodes m.nodes) (docs_from t r);
    means = λ table s root k. means_more (n.means table s root k) (m.means table s root k);
    within = omega (arith, n.within, m.within);
    value = (n.value, m.value);
  }

  pub items_start : (p depth : ℕ) → ItemsFront shaped built t p p depth []
  items_start p depth to ys m = m

  pub items_next : (from p q depth : ℕ) (x : T) (xs : List T) → ItemsFront shaped built t from p depth xs
      → NodeMeans shaped built t p q depth x → ItemsFront shaped built t from q depth (xs ++ x ∷ [])
  items_next from p q depth x xs f n to ys m =
      subst (λ y. ItemsMean shaped built t from to depth y) (sym (append_assoc xs (x ∷ []) ys))
      (f to (x ∷ ys) (items_more p q to depth x ys n m))

  pub items_all : (from p depth : ℕ) (xs : List T) → ItemsFront shaped built t from p depth xs
      → ItemsMean shaped built t from p depth xs
  items_all from p depth xs f =
      subst (λ y. ItemsMean shaped built t from p depth y) (append-nil xs) (f p [] (items_none p depth))

  -- a sequence
  pub seq_means : (from first last to depth inner : ℕ) (xs : List T)
      → docs_from t from ≡ Some (sequence_begins None) ∷ docs_from t first
      → ItemsMean shaped built t first last inner xs → docs_from t last ≡ Some sequence_ends ∷ docs_from t to
      → suc inner ≤ depth → NodeMeans (SeqShaped shaped) (BuiltSeq built) t from to depth xs
  seq_means from first last to depth inner xs b m e d = record {
    node = list None m.nodes;
    found = seq_data m.found;
    nestings = suc m.nestings;
    events = b ∙ ap (λ y. Some (sequence_begins None) ∷ y)
        (m.events ∙ ap (λ y. map Some (events_of_nodes m.nodes) ++ y) e
        ∙ closed (events_of_nodes m.nodes) sequence_ends (docs_from t to));
    means = λ table s root k. let (id, r, is, at, part) = k in
        subst (λ y. Means table root y (list None m.nodes) false (seq_data m.found) (suc m.nestings) 0) (sym is)
        (means_node refl refl (means_list (means_seq at (m.means table r root part))));
    within = omega (arith, m.within, d);
    value = m.value;
  }

  -- the first event of a node is the one that stands first
  first_is : (n : DocNode) (d : PlainDocEvent) (rest tail : List (Option PlainDocEvent))
      → Some d ∷ rest ≡ map Some (events_of n) ++ tail → first_event n ≡ d
  first_is nothing d rest tail h = sym (ap (λ l. unwrap_or (unwrap_or (slice_get l 0) None) d) h)
  first_is (reference j) d rest tail h = sym (ap (λ l. unwrap_or (unwrap_or (slice_get l 0) None) d) h)
  first_is (word s) d rest tail h = sym (ap (λ l. unwrap_or (unwrap_or (slice_get l 0) None) d) h)
  first_is (list tag ns) d rest tail h = sym (ap (λ l. unwrap_or (unwrap_or (slice_get l 0) None) d) h)
  first_is (mapping tag ps) d rest tail h = sym (ap (λ l. unwrap_or (unwrap_or (slice_get l 0) None) d) h)

  -- a node that is the content of an optional
  pub some_means : (from to depth : ℕ) (x : T) (d : PlainDocEvent) (rest : List (Option PlainDocEvent))
      → docs_from t from ≡ Some d ∷ rest → is_content false d ≡ true → NodeMeans shaped built t from to depth x
      → NodeMeans (OptionShaped shaped) (BuiltOption built) t from to depth (Some x)
  some_means from to depth x d rest h content n =
      let first : first_event n.node ≡ d = first_is n.node d rest (docs_from t to) (sym h ∙ n.events) in
      record {
        node = n.node;
        found = some_data n.found;
        nestings = n.nestings;
        events = n.events;
        means = λ table s root k. let (id, r, is, at, part) = k in
            subst (λ y. Means table root y n.node false (some_data n.found) n.nestings 0) (sym is)
            (means_node refl (rw (first, content) refl) (means_some at (n.means table r root part)));
        within = n.within;
        value = n.value;
      }

module _ {K V : Type 0} (ks vs : Shaped) (key : PlainData → K → Type 0) (value : PlainData → V → Type 0)
    (t : Tape) where
  -- no pairs, and one more
  pub pairs_none : (p depth : ℕ) → PairsMean ks vs key value t p p depth []
  pairs_none p depth = record {
    pairs = no_pairs;
    found = no_entries;
    nestings = 0;
    events = refl;
    means = λ table s r root k l. means_no_pairs;
    within = omega arith;
    values = tt;
  }

  pub pairs_more : (p q r end depth : ℕ) (x : K) (y : V) (xs : List (K × V)) → NodeMeans ks key t p q depth x
      → NodeMeans vs value t q r depth y → PairsMean ks vs key value t r end depth xs
      → PairsMean ks vs key value t p end depth ((x, y) ∷ xs)
  pairs_more p q r end depth x y xs m n f = record {
    pairs = pair m.node n.node f.pairs;
    found = entry m.found n.found f.found;
    nestings = max m.nestings (max n.nestings f.nestings);
    events = m.events ∙ ap (λ z. map Some (events_of m.node) ++ z) (n.events
        ∙ ap (λ z. map Some (events_of n.node) ++ z) f.events
        ∙ two (events_of n.node) (events_of_pairs f.pairs) (docs_from t end))
        ∙ two (events_of m.node) (events_of n.node ++ events_of_pairs f.pairs) (docs_from t end);
    means = λ table s r root k l.
        means_pair (m.means table s root k) (n.means table r root l) (f.means table s r root k l);
    within = omega (arith, m.within, n.within, f.within);
    values = (m.value, n.value, f.values);
  }

  pub pairs_start : (p depth : ℕ) → PairsFront ks vs key value t p p depth []
  pairs_start p depth to ys m = m

  pub pairs_next : (from p q r depth : ℕ) (x : K) (y : V) (xs : List (K × V))
      → PairsFront ks vs key value t from p depth xs → NodeMeans ks key t p q depth x
      → NodeMeans vs value t q r depth y → PairsFront ks vs key value t from r depth (xs ++ (x, y) ∷ [])
  pairs_next from p q r depth x y xs f m n to ys l =
      subst (λ z. PairsMean ks vs key value t from to depth z) (sym (append_assoc xs ((x, y) ∷ []) ys))
      (f to ((x, y) ∷ ys) (pairs_more p q r to depth x y ys m n l))

  pub pairs_all : (from p depth : ℕ) (xs : List (K × V)) → PairsFront ks vs key value t from p depth xs
      → PairsMean ks vs key value t from p depth xs
  pairs_all from p depth xs f =
      subst (λ z. PairsMean ks vs key value t from p depth z) (append-nil xs) (f p [] (pairs_none p depth))

  -- values of entries, put in one after another, are those of a map of the entries
  put : (cmp : K → K → Ordering) (es : PlainEntries) (xs before : List (K × V)) → BuiltPairs key value es xs
      → BuiltEntries cmp key value es before (inserted_pairs cmp before xs)
  put cmp no_entries [] before h = refl
  put cmp no_entries (x ∷ xs) before h = absurd h
  put cmp (entry k v es) [] before h = absurd h
  put cmp (entry k v es) (x ∷ xs) before h =
      (x.0, x.1, h.0, h.1, put cmp es xs (insert_entry cmp before x.0 x.1) h.2)

  -- a mapping
  pub map_means : (cmp : K → K → Ordering) (from first last to depth inner : ℕ) (xs : List (K × V))
      → docs_from t from ≡ Some (mapping_begins None) ∷ docs_from t first
      → PairsMean ks vs key value t first last inner xs → docs_from t last ≡ Some mapping_ends ∷ docs_from t to
      → suc inner ≤ depth
      → NodeMeans (MapShaped ks vs) (BuiltMap cmp key value) t from to depth (inserted_pairs cmp [] xs)
  map_means cmp from first last to depth inner xs b m e d = record {
    node = mapping None m.pairs;
    found = map_data m.found;
    nestings = suc m.nestings;
    events = b ∙ ap (λ y. Some (mapping_begins None) ∷ y)
        (m.events ∙ ap (λ y. map Some (events_of_pairs m.pairs) ++ y) e
        ∙ closed (events_of_pairs m.pairs) mapping_ends (docs_from t to));
    means = λ table s root k. let (a, b, r, v, is, at, be, kr, vv) = k in
        subst (λ y. Means table root y (mapping None m.pairs) false (map_data m.found) (suc m.nestings) 0) (sym is)
        (means_node refl refl (means_mapping (means_map at be (m.means table r v root kr vv))));
    within = omega (arith, m.within, d);
    value = put cmp m.found xs [] m.values;
  }
