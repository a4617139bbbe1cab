-- Each event of a tree but ends begins a node, whose number is the event's place.
use Rattle.std.proofs.Common.{◌≡◌, ◌∷◌, ◌++◌, ◌+◌, ℕ, zero, suc, List, [], Option, Some, refl, subst}
use Rattle.std.proofs.Common.{length, arith, Bool, true, false, inl, inr, ◌⊎◌}
use Rattle.std.proofs.lemmas.Bool.{eq-eqb}
use Rattle.std.specs.Prelude.{slice_get, if◌then◌else◌, ◌==◌}
use Rattle.yaml_base.specs.DocTree.{DocNode, nothing, reference, word, list, mapping, DocNodes, no_nodes, node}
use Rattle.yaml_base.specs.DocTree.{DocPairs, no_pairs, pair, events_of, events_of_nodes, events_of_pairs, node_of}
use Rattle.yaml_base.specs.DocTree.{numbered, numbered_nodes, numbered_pairs, with_number}
use Rattle.yaml_base.specs.PlainDocEvent.{PlainDocEvent, mapping_ends, sequence_ends}
use Rattle.yaml_load.specs.Ends.{is_closing}

-- the list has a node with the number
abbrev Has : ℕ → List (ℕ × DocNode) → Type 0
Has j xs = (n : DocNode) × (with_number j xs ≡ Some n)

has_if : (b : Bool) (m : DocNode) (o : Option DocNode) → ((n : DocNode) × (o ≡ Some n))
    → (n : DocNode) × ((if b then Some m else o) ≡ Some n)
has_if true m o h = (m, refl)
has_if false m o h = h

has_later : (j : ℕ) (x : ℕ × DocNode) (xs : List (ℕ × DocNode)) → Has j xs → Has j (x ∷ xs)
has_later j x xs h = has_if (x.0 == j) x.1 (with_number j xs) h

has_first : (j : ℕ) (n : DocNode) (xs : List (ℕ × DocNode)) → Has j ((j, n) ∷ xs)
has_first j n xs = (n, (rw (eq-eqb j j refl)))

left_if : (b : Bool) (m : DocNode) (o p : Option DocNode)
    → (((n : DocNode) × (o ≡ Some n)) → (n : DocNode) × (p ≡ Some n))
    → ((n : DocNode) × ((if b then Some m else o) ≡ Some n)) → (n : DocNode) × ((if b then Some m else p) ≡ Some n)
left_if true m o p f h = (m, refl)
left_if false m o p f h = f h

has_left : (j : ℕ) (xs ys : List (ℕ × DocNode)) → Has j xs → Has j (xs ++ ys)
has_left j [] ys h = let bad = h.1 in absurd cc
has_left j (x ∷ xs) ys h =
    left_if (x.0 == j) x.1 (with_number j xs) (with_number j (xs ++ ys)) (has_left j xs ys) h

has_right : (j : ℕ) (xs ys : List (ℕ × DocNode)) → Has j ys → Has j (xs ++ ys)
has_right j [] ys h = h
has_right j (x ∷ xs) ys h = has_later j x (xs ++ ys) (has_right j xs ys h)

-- what stands in front of an end
front : (xs : List PlainDocEvent) (f : PlainDocEvent) (q : ℕ) (e : PlainDocEvent)
    → slice_get (xs ++ f ∷ []) q ≡ Some e → is_closing f ≡ true → is_closing e ≡ false → slice_get xs q ≡ Some e
front [] f zero e h c o = let same : f ≡ e = cc in absurd cc
front [] f (suc q) e h c o = absurd cc
front (x ∷ xs) f zero e h c o = h
front (x ∷ xs) f (suc q) e h c o = front xs f q e h c o

-- where an event of two parts stands
split : (xs ys : List PlainDocEvent) (q : ℕ) (e : PlainDocEvent) → slice_get (xs ++ ys) q ≡ Some e
    → (slice_get xs q ≡ Some e) ⊎ ((r : ℕ) × (q ≡ length xs + r) × (slice_get ys r ≡ Some e))
split [] ys q e h = inr (q, omega arith, h)
split (x ∷ xs) ys zero e h = inl h
split (x ∷ xs) ys (suc q) e h = elim (split xs ys q e h) [
  | inl here ↦ inl here
  | inr there ↦ inr (there.0, omega (arith, there.1), there.2)
]

mutual
  has_node : (n : DocNode) (i p : ℕ) (e : PlainDocEvent) → slice_get (events_of n) p ≡ Some e
      → is_closing e ≡ false → Has (i + p) (numbered n i)
  has_node n i zero e h o = first n
    where
      at : i ≡ i + 0
      at = omega arith

      first : (n : DocNode) → Has (i + 0) (numbered n i)
      first (list tag ns) =
          subst (λ j. Has j (numbered (list tag ns) i)) at (has_first i (list tag ns) (numbered_nodes ns (suc i)))
      first (mapping tag ps) =
          subst (λ j. Has j (numbered (mapping tag ps) i)) at (has_first i (mapping tag ps) (numbered_pairs ps (suc i)))
      first nothing = subst (λ j. Has j (numbered nothing i)) at (has_first i nothing [])
      first (reference t) = subst (λ j. Has j (numbered (reference t) i)) at (has_first i (reference t) [])
      first (word w) = subst (λ j. Has j (numbered (word w) i)) at (has_first i (word w) [])
  has_node (list tag ns) i (suc q) e h o =
      has_later (i + suc q) (i, list tag ns) (numbered_nodes ns (suc i))
      (subst (λ j. Has j (numbered_nodes ns (suc i))) (omega arith)
      (has_nodes ns (suc i) q e (front (events_of_nodes ns) sequence_ends q e h refl o) o))
  has_node (mapping tag ps) i (suc q) e h o =
      has_later (i + suc q) (i, mapping tag ps) (numbered_pairs ps (suc i))
      (subst (λ j. Has j (numbered_pairs ps (suc i))) (omega arith)
      (has_pairs ps (suc i) q e (front (events_of_pairs ps) mapping_ends q e h refl o) o))
  has_node nothing i (suc q) e h o = absurd cc
  has_node (reference t) i (suc q) e h o = absurd cc
  has_node (word w) i (suc q) e h o = absurd cc

  has_nodes : (ns : DocNodes) (i p : ℕ) (e : PlainDocEvent) → slice_get (events_of_nodes ns) p ≡ Some e
      → is_closing e ≡ false → Has (i + p) (numbered_nodes ns i)
  has_nodes no_nodes i p e h o = absurd cc
  has_nodes (node n ns) i p e h o =
      let mid = i + length (events_of n) in
      elim (split (events_of n) (events_of_nodes ns) p e h) [
        | inl here ↦ has_left (i + p) (numbered n i) (numbered_nodes ns mid) (has_node n i p e here o)
        | inr there ↦ has_right (i + p) (numbered n i) (numbered_nodes ns mid)
            (subst (λ j. Has j (numbered_nodes ns mid)) (omega (arith, there.1))
            (has_nodes ns mid there.0 e there.2 o))
      ]

  has_pairs : (ps : DocPairs) (i p : ℕ) (e : PlainDocEvent) → slice_get (events_of_pairs ps) p ≡ Some e
      → is_closing e ≡ false → Has (i + p) (numbered_pairs ps i)
  has_pairs no_pairs i p e h o = absurd cc
  has_pairs (pair k v ps) i p e h o =
      let mid = i + length (events_of k) in
      let last = mid + length (events_of v) in
      elim (split (events_of k) (events_of v ++ events_of_pairs ps) p e h) [
        | inl here ↦
            has_left (i + p) (numbered k i) (numbered v mid ++ numbered_pairs ps last) (has_node k i p e here o)
        | inr there ↦ has_right (i + p) (numbered k i) (numbered v mid ++ numbered_pairs ps last)
            (elim (split (events_of v) (events_of_pairs ps) there.0 e there.2) [
              | inl here ↦ has_left (i + p) (numbered v mid) (numbered_pairs ps last)
                  (subst (λ j. Has j (numbered v mid)) (omega (arith, there.1)) (has_node v mid there.0 e here o))
              | inr later ↦ has_right (i + p) (numbered v mid) (numbered_pairs ps last)
                  (subst (λ j. Has j (numbered_pairs ps last)) (omega (arith, there.1, later.1))
                  (has_pairs ps last later.0 e later.2 o))
            ])
      ]

-- a node begins at each event but ends
pub node_at : (root : DocNode) (p : ℕ) (e : PlainDocEvent) → slice_get (events_of root) p ≡ Some e
    → is_closing e ≡ false → (n : DocNode) × (node_of root p ≡ Some n)
node_at root p e h o =
    let found = has_node root 0 p e h o in
    subst (λ j. (n : DocNode) × (with_number j (numbered root 0) ≡ Some n)) (omega arith) found
