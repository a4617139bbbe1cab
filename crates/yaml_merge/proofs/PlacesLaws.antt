-- What is made of places of a document is made of the nodes of its tree.
use Rattle.std.proofs.Common.{◌≡◌, ◌∷◌, ◌++◌, ◌+◌, ◌-◌, ◌^◌, ◌<◌, ◌≤◌, ℕ, suc, List, [], Option, Some, refl, sym, ap}
use Rattle.std.proofs.Common.{◌∙◌, subst, length, arith, Bool, true, false, ◌||◌, ap₂, length-append}
use Rattle.std.proofs.lemmas.Option.{slice_get-map}
use Rattle.std.specs.Prelude.{map, slice_get, if◌then◌else◌}
use Rattle.std.specs.Option.{option_map, option_map_or}
use Rattle.yaml_base.specs.DocTree.{DocNode, nothing, reference, word, list, mapping, DocNodes, DocPairs, IsTreeOf}
use Rattle.yaml_base.specs.DocTree.{events_of, events_of_nodes, events_of_pairs, first_event, node_of, numbered}
use Rattle.yaml_base.specs.DocTree as tree
use Rattle.yaml_base.specs.PlainDocEvent.{PlainDocEvent, alias_to, a_scalar, mapping_begins, mapping_ends}
use Rattle.yaml_base.specs.PlainDocEvent.{sequence_begins, sequence_ends}
use Rattle.yaml_base.specs.PlainEvent.{PlainScalar}
use Rattle.yaml_base.specs.Position.{Position}
use Rattle.yaml_base.specs.Tree.{Node, alias_node, scalar_node, sequence_node, mapping_node, Nodes, no_nodes, node}
use Rattle.yaml_base.specs.Tree.{NodePairs, no_pairs, pair}
use Rattle.yaml_load.specs.Ends.{ends_of, is_closing}
use Rattle.yaml_load.specs.Resolved.{without_anchor}
use Rattle.yaml_read.proofs.reading.EndLaws.{node_ends}
use Rattle.yaml_read.proofs.reading.Shown.{Shows, begins, node_within, shows_both, target_shown, wide}
use Rattle.yaml_merge.specs.MergeKeys.{Events, is_merge_node, is_merge_word}
use Rattle.yaml_merge.specs.MergedTree.{is_merge_key}
use Rattle.yaml_merge.specs.Remade.{HasElements, HasEntries, IsMadeOf, Numbered, Stands, are_merging, is_merging, meant}
use Rattle.yaml_merge.specs.Remade.{meant_number, own_entries}
use Rattle.yaml_merge.specs.Writing.{AreKeys, Made, MadeElements, MadePairs, are_merging_at, behind_at, end_at}
use Rattle.yaml_merge.specs.Writing.{event_at}
use Rattle.yaml_merge.proofs.NumberLaws.{node_at}
use Rattle.yaml_merge.specs.Writing.{is_merge_key_at, next_to, own_keys, target_at, target_of}

-- which node begins with an event
is_word : (n : DocNode) (s : PlainScalar) → first_event n ≡ a_scalar s → n ≡ word s
is_word nothing s h = absurd cc
is_word (reference t) s h = absurd cc
is_word (word w) s h = let same : w ≡ s = cc in ap word same
is_word (list tag nodes) s h = absurd cc
is_word (mapping tag ps) s h = absurd cc

is_list : (n : DocNode) (tag : Option (List ℕ)) → first_event n ≡ sequence_begins tag
    → (nodes : DocNodes) × (n ≡ list tag nodes)
is_list nothing tag h = absurd cc
is_list (reference t) tag h = absurd cc
is_list (word w) tag h = absurd cc
is_list (list found nodes) tag h = let same : found ≡ tag = cc in (nodes, ap (λ t. list t nodes) same)
is_list (mapping found ps) tag h = absurd cc

is_mapping : (n : DocNode) (tag : Option (List ℕ)) → first_event n ≡ mapping_begins tag
    → (ps : DocPairs) × (n ≡ mapping tag ps)
is_mapping nothing tag h = absurd cc
is_mapping (reference t) tag h = absurd cc
is_mapping (word w) tag h = absurd cc
is_mapping (list found nodes) tag h = absurd cc
is_mapping (mapping found ps) tag h = let same : found ≡ tag = cc in (ps, ap (λ t. mapping t ps) same)

module _ (events : Events) (root : DocNode) (shown : Shows (slice_get events) 0 (events_of root))
    (known : (p j : ℕ) (mark : Position) → slice_get events p ≡ Some (alias_to j, mark)
    → (n : DocNode) × (node_of root j ≡ Some n))
    (within : (p : ℕ) (e : PlainDocEvent × Position) → slice_get events p ≡ Some e → p < length events)
    (size : length events ≤ 2 ^ 64 - 1) (listed : map (λ e. e.0) events ≡ events_of root) where
  abbrev ends : List ℕ
  ends = ends_of (map (λ e. e.0) events)

  -- the event at a node
  at_node : (p : ℕ) (n : DocNode) → Shows (slice_get events) p (events_of n) → event_at events p ≡ Some (first_event n)
  at_node p n s = ap (option_map (λ e. e.0)) (begins (slice_get events) p n s).1

  -- a node ends within the events
  node_room : (p : ℕ) (n : DocNode) → Shows (slice_get events) p (events_of n)
      → (end_at ends p + 1 ≡ p + length (events_of n)) × (end_at ends p < length events)
  node_room p n s =
      let found = node_ends events p n s in
      let is : end_at ends p ≡ found.0 = rw found.1 in
      let room = node_within (slice_get events) (length events) within p found.0 n s found.2 in
      (omega (arith, is, found.2), omega (arith, is, room))

  behind_node : (p : ℕ) (n : DocNode) → Shows (slice_get events) p (events_of n)
      → behind_at ends p ≡ p + length (events_of n)
  behind_node p n s = let room = node_room p n s in omega (arith, room.0, room.1)

  -- the node that a node is or stands for
  pub child_shown : (at : ℕ) (n : DocNode) → Shows (slice_get events) at (events_of n)
      → (t : DocNode) × (meant root n ≡ Some t) × Shows (slice_get events) (meant_number n at) (events_of t)
      × (target_at events at ≡ meant_number n at)
  child_shown at (reference j) s =
      let first = begins (slice_get events) at (reference j) s in
      let there = known at j first.0 first.1 in (
        there.0,
        there.1,
        target_shown (slice_get events) root j there.0 shown there.1,
        ap (λ e. target_of e at) (at_node at (reference j) s),
      )
  child_shown at nothing s = (nothing, refl, s, ap (λ e. target_of e at) (at_node at nothing s))
  child_shown at (word w) s = (word w, refl, s, ap (λ e. target_of e at) (at_node at (word w) s))
  child_shown at (list t ns) s = (list t ns, refl, s, ap (λ e. target_of e at) (at_node at (list t ns) s))
  child_shown at (mapping t ps) s = (mapping t ps, refl, s, ap (λ e. target_of e at) (at_node at (mapping t ps) s))

  -- which keys are merge keys
  merging_at : (at : ℕ) (k : DocNode) → Shows (slice_get events) at (events_of k)
      → is_merge_key_at events at ≡ is_merging root k
  merging_at at (reference j) s =
      let first = begins (slice_get events) at (reference j) s in
      let there = known at j first.0 first.1 in
      let shows = target_shown (slice_get events) root j there.0 shown there.1 in
      let second = begins (slice_get events) j there.0 shows in
      ap (λ e. option_map_or (is_merge_node events) e false) (at_node at (reference j) s)
      ∙ ap (λ e. option_map_or (λ (x : PlainDocEvent × Position). is_merge_word x.0) e false) second.1
      ∙ sym (ap (λ e. option_map_or is_merge_key e false) there.1)
  merging_at at nothing s = ap (λ e. option_map_or (is_merge_node events) e false) (at_node at nothing s)
  merging_at at (word w) s = ap (λ e. option_map_or (is_merge_node events) e false) (at_node at (word w) s)
  merging_at at (list t ns) s = ap (λ e. option_map_or (is_merge_node events) e false) (at_node at (list t ns) s)
  merging_at at (mapping t ps) s = ap (λ e. option_map_or (is_merge_node events) e false) (at_node at (mapping t ps) s)

  -- places of keys and entries with the same numbers
  abbrev Tied : List ℕ → List (Numbered × Numbered) → Type 0
  Tied [] [] = Unit {0}
  Tied (key ∷ keys) (e ∷ entries) =
      (key ≡ e.0.0) × Shows (slice_get events) e.0.0 (events_of e.0.1) × (behind_at ends key ≡ e.1.0)
      × Shows (slice_get events) e.1.0 (events_of e.1.1) × Tied keys entries
  Tied _ _ = ⊥

  tied_if : (b c : Bool) (key : ℕ) (keys : List ℕ) (e : Numbered × Numbered) (entries : List (Numbered × Numbered))
      → b ≡ c → Tied keys entries → Tied (key ∷ keys) (e ∷ entries)
      → Tied (if b then keys else key ∷ keys) (if c then entries else e ∷ entries)
  tied_if true true key keys e entries h t u = t
  tied_if false false key keys e entries h t u = u
  tied_if true false key keys e entries h t u = absurd cc
  tied_if false true key keys e entries h t u = absurd cc

  tied : (ps : DocPairs) (keys : List ℕ) (at end : ℕ) → Shows (slice_get events) at (events_of_pairs ps)
      → end ≡ at + length (events_of_pairs ps) → AreKeys ends at end keys
      → Tied (own_keys events keys) (own_entries root at ps) × (are_merging_at events keys ≡ are_merging root ps)
  tied tree.no_pairs [] at end s e are = (tt, refl)
  tied tree.no_pairs (key ∷ keys) at end s e are = let lt = are.0 in absurd (omega (arith, lt, e))
  tied (tree.pair k v ps) [] at end s e are =
      absurd (omega (arith, e, are, wide k, length-append (events_of k) (events_of v ++ events_of_pairs ps)))
  tied (tree.pair k v ps) (key ∷ keys) at end s e are =
      let first = shows_both (slice_get events) at (events_of k) (events_of v ++ events_of_pairs ps) s in
      let mid = at + length (events_of k) in
      let second = shows_both (slice_get events) mid (events_of v) (events_of_pairs ps) first.1 in
      let last = mid + length (events_of v) in
      let to_mid : behind_at ends at ≡ mid = behind_node at k first.0 in
      let to_last : behind_at ends mid ≡ last = behind_node mid v second.0 in
      let rest : AreKeys ends last end keys =
      subst (λ p. AreKeys ends p end keys) (ap (behind_at ends) to_mid ∙ to_last) are.2 in
      let ended : end ≡ last + length (events_of_pairs ps) =
      omega (
        arith,
        e,
        length-append (events_of k) (events_of v ++ events_of_pairs ps),
        length-append (events_of v) (events_of_pairs ps),
      ) in
      let later = tied ps keys last end second.1 ended rest in
      let here : is_merge_key_at events key ≡ is_merging root k =
      ap (is_merge_key_at events) are.1 ∙ merging_at at k first.0 in (
        tied_if (is_merge_key_at events key) (is_merging root k) key (own_keys events keys) ((at, k), (mid, v))
            (own_entries root last ps) here later.0
            (are.1, first.0, ap (behind_at ends) are.1 ∙ to_mid, second.0, later.0),
        ap₂ (λ (b c : Bool). b || c) here later.1,
      )

  inner : (p : ℕ) (e f : PlainDocEvent) (ts : List PlainDocEvent) → Shows (slice_get events) p (e ∷ (ts ++ f ∷ []))
      → Shows (slice_get events) (p + 1) ts
  inner p e f ts s =
      subst (λ q. Shows (slice_get events) q ts) (omega arith) (shows_both (slice_get events) (suc p) ts (f ∷ []) s.1).0

  node_there : (place : ℕ) (e : PlainDocEvent) → event_at events place ≡ Some e → is_closing e ≡ false
      → (n : DocNode) × (node_of root place ≡ Some n) × Shows (slice_get events) place (events_of n)
  node_there place e is o =
      let among = ap (λ l. slice_get l place) (sym listed)
      ∙ slice_get-map (λ (x : PlainDocEvent × Position). x.0) events place ∙ is in
      let found = node_at root place e among o in
      (found.0, found.1, target_shown (slice_get events) root place found.0 shown found.1)

  -- the node is shown there, unless what is made is an alias
  abbrev pub ShownFor : Node → (place : ℕ) → DocNode → Type 0
  ShownFor (alias_node a) place n = Unit {0}
  ShownFor m place n = Shows (slice_get events) place (events_of n)

  pub shown_for : (m : Node) (place : ℕ) (n : DocNode) → Shows (slice_get events) place (events_of n) → ShownFor m place n
  shown_for (alias_node a) place n s = tt
  shown_for (scalar_node w) place n s = s
  shown_for (sequence_node a tag made) place n s = s
  shown_for (mapping_node a tag made) place n s = s

  -- where something is made of a place, a node stands there
  node_made : (m : Node) (place : ℕ) → Made events ends m place
      → (n : DocNode) × Stands root m place n × ShownFor m place n
  node_made (alias_node a) place h = (root, tt, tt)
  node_made (scalar_node s) place h = node_there place (a_scalar (without_anchor s)) h.0 refl
  node_made (sequence_node a tag made) place h = node_there place (sequence_begins tag) h.0 refl
  node_made (mapping_node a tag made) place h = node_there place (mapping_begins tag) h.0 refl

  mutual
    -- a node that is made of a place is made of the node there
    pub of_place : (m : Node) (p : ℕ) (n : DocNode) → ShownFor m p n → Made events ends m p → IsMadeOf root m p n
    of_place (alias_node a) p n s h = h
    of_place (scalar_node w) p n s (at, named) =
        let here = at_node p n s in
        let same : first_event n ≡ a_scalar (without_anchor w) = cc in
        (is_word n (without_anchor w) same, named)
    of_place (sequence_node a tag made) p n s (at, named, elements) =
        let here = at_node p n s in
        let same : first_event n ≡ sequence_begins tag = cc in
        let l = is_list n tag same in
        let s' = subst (λ x. Shows (slice_get events) p (events_of x)) l.1 s in
        let room = node_room p (list tag l.0) s' in
        let long = length-append (events_of_nodes l.0) (sequence_ends ∷ []) in
        let start : next_to p ≡ p + 1 = omega (arith, room.0, room.1, long) in
        let ended : end_at ends p ≡ p + 1 + length (events_of_nodes l.0) = omega (arith, room.0, long) in (
          l.0,
          l.1,
          named,
          of_elements made (p + 1) (end_at ends p) l.0
              (inner p (sequence_begins tag) sequence_ends (events_of_nodes l.0) s') ended
              (subst (λ q. MadeElements events ends made q (end_at ends p)) start elements),
        )
    of_place (mapping_node a tag made) p n s (at, named, keys, are, pairs) =
        let here = at_node p n s in
        let same : first_event n ≡ mapping_begins tag = cc in
        let l = is_mapping n tag same in
        let s' = subst (λ x. Shows (slice_get events) p (events_of x)) l.1 s in
        let room = node_room p (mapping tag l.0) s' in
        let long = length-append (events_of_pairs l.0) (mapping_ends ∷ []) in
        let start : next_to p ≡ p + 1 = omega (arith, room.0, room.1, long) in
        let ended : end_at ends p ≡ p + 1 + length (events_of_pairs l.0) = omega (arith, room.0, long) in
        let t = tied l.0 keys (p + 1) (end_at ends p)
        (inner p (mapping_begins tag) mapping_ends (events_of_pairs l.0) s') ended
        (subst (λ q. AreKeys ends q (end_at ends p) keys) start are) in (
          l.0,
          l.1,
          named,
          of_pairs made (are_merging root l.0) (own_keys events keys) (own_entries root (p + 1) l.0) t.0
              (subst (λ b. MadePairs events ends made b (own_keys events keys)) t.1 pairs),
        )

    of_elements : (made : Nodes) (at end : ℕ) (nodes : DocNodes)
        → Shows (slice_get events) at (events_of_nodes nodes) → end ≡ at + length (events_of_nodes nodes)
        → MadeElements events ends made at end → HasElements root made at nodes
    of_elements no_nodes at end tree.no_nodes s e h = tt
    of_elements no_nodes at end (tree.node n nodes) s e h =
        absurd (omega (arith, e, h, wide n, length-append (events_of n) (events_of_nodes nodes)))
    of_elements (node m made) at end tree.no_nodes s e h = let lt = h.0 in absurd (omega (arith, lt, e))
    of_elements (node m made) at end (tree.node n nodes) s e h =
        let parts = shows_both (slice_get events) at (events_of n) (events_of_nodes nodes) s in
        let child = child_shown at n parts.0 in
        let ended : end ≡ at + length (events_of n) + length (events_of_nodes nodes) =
        omega (arith, e, length-append (events_of n) (events_of_nodes nodes)) in (
          (
            child.0,
            child.1,
            of_place m (meant_number n at) child.0 (shown_for m (meant_number n at) child.0 child.2)
                (subst (λ q. Made events ends m q) child.3 h.1),
          ),
          of_elements made (at + length (events_of n)) end nodes parts.1 ended
              (subst (λ q. MadeElements events ends made q end) (behind_node at n parts.0) h.2),
        )

    of_pairs : (made : NodePairs) (merges : Bool) (keys : List ℕ) (entries : List (Numbered × Numbered))
        → Tied keys entries → MadePairs events ends made merges keys → HasEntries root made merges entries
    of_pairs no_pairs merges [] [] t h = tt
    of_pairs no_pairs merges (key ∷ keys) [] t h = absurd h
    of_pairs no_pairs merges [] (e ∷ entries) t h = absurd t
    of_pairs no_pairs merges (key ∷ keys) (e ∷ entries) t h = absurd h
    of_pairs (pair k v made) merges (key ∷ keys) [] t h = absurd t
    of_pairs (pair k v made) merges [] (e ∷ entries) t h = absurd t
    of_pairs (pair k v made) merges (key ∷ keys) (e ∷ entries) t h =
        let ck = child_shown e.0.0 e.0.1 t.1 in
        let cv = child_shown e.1.0 e.1.1 t.3 in (
          (
            ck.0,
            ck.1,
            of_place k (meant_number e.0.1 e.0.0) ck.0 (shown_for k (meant_number e.0.1 e.0.0) ck.0 ck.2)
                (subst (λ q. Made events ends k q) (ap (target_at events) t.0 ∙ ck.3) h.0),
          ),
          (
            cv.0,
            cv.1,
            of_place v (meant_number e.1.1 e.1.0) cv.0 (shown_for v (meant_number e.1.1 e.1.0) cv.0 cv.2)
                (subst (λ q. Made events ends v q) (ap (target_at events) t.2 ∙ cv.3) h.1),
          ),
          of_pairs made merges keys entries t.4 h.2,
        )
    of_pairs (pair k v made) merges [] [] t h =
        let nk = node_made k h.1.0 h.1.1 in
        let nv = node_made v h.2.0 h.2.1 in (
          h.0,
          (h.1.0, nk.0, nk.1, of_place k h.1.0 nk.0 nk.2 h.1.1),
          (h.2.0, nv.0, nv.1, of_place v h.2.0 nv.0 nv.2 h.2.1),
          of_pairs made merges [] [] tt h.3,
        )
