-- What the events of a tree become, one by one, and what is in front of the end of their document and behind it.
use Rattle.std.specs.Prelude.{◌≡◌, ◌+◌, ◌∷◌, ◌++◌}
use Rattle.yaml_load.proofs.Words.{arith, ℕ, suc, List, [], map, length, refl, ap, true, false, append_assoc, Option}
use Rattle.yaml_load.proofs.Words.{Some, None, Position, PlainEvent, sequence_end, mapping_end, document_end, Node}
use Rattle.yaml_load.proofs.Words.{alias_node, scalar_node, sequence_node, mapping_node, Nodes, no_nodes, node}
use Rattle.yaml_load.proofs.Words.{NodePairs, no_pairs, pair, node_events, nodes_events, pairs_events, anchor_at, Input}
use Rattle.yaml_load.proofs.Words.{Find, becomes, known_events, or_mark, unknown_mark, body, behind_document, is_ended}
use Rattle.yaml_load.proofs.Words.{is_document_end, anchor_of, anchors_in, events_in, PlainDocEvent}

-- what stands for each of the events, by its place, where the first has the given one
abbrev pub each_at : {X : Type 0} → (ℕ → PlainEvent → List X) → ℕ → List PlainEvent → List X
each_at f i [] = []
each_at f i (e ∷ es) = f i e ++ each_at f (i + 1) es

pub each_at-append : {X : Type 0} (f : ℕ → PlainEvent → List X) (i : ℕ) (es fs : List PlainEvent)
    → each_at f i (es ++ fs) ≡ each_at f i es ++ each_at f (i + length es) fs
each_at-append f i [] fs = let n : i ≡ i + 0 = omega arith in ap (λ k. each_at f k fs) n
each_at-append f i (e ∷ es) fs =
    let n : i + 1 + length es ≡ i + suc (length es) = omega arith in
    rw (append_assoc, each_at-append f (i + 1) es fs, n)

-- their anchors
abbrev pub name_at : ℕ → PlainEvent → List (List ℕ × ℕ)
name_at i e = anchor_at (anchor_of e) i

pub anchors_in-plain : (i : ℕ) (input : Input) → anchors_in i input ≡ each_at name_at i (events_in input)
anchors_in-plain i [] = refl
anchors_in-plain i (e ∷ input) = ap (λ xs. name_at i e.0 ++ xs) (anchors_in-plain (i + 1) input)

-- what they become
abbrev pub made_at : Find → ℕ → PlainEvent → List (Option PlainDocEvent)
made_at find i e = becomes find i e ∷ []

abbrev pub made : Find → ℕ → List PlainEvent → List (Option PlainDocEvent)
made find i es = each_at (made_at find) i es

pub made_long : (find : Find) (i : ℕ) (es : List PlainEvent) (ds : List PlainDocEvent) → made find i es ≡ map Some ds
    → length es ≡ length ds
made_long find i [] [] is = refl
made_long find i (e ∷ es) (d ∷ ds) is = ap suc (made_long find (i + 1) es ds (cc))
made_long find i _ _ is = absurd cc

-- where each becomes one, they are known
pub all_known : (find : Find) (i : ℕ) (input : Input) (ds : List PlainDocEvent)
    → made find i (events_in input) ≡ map Some ds
    → (map (λ (e : PlainDocEvent × Position). e.0) (known_events find i input) ≡ ds)
    × (unknown_mark find i input ≡ None)
all_known find i [] [] is = (refl, refl)
all_known find i (e ∷ input) (d ∷ ds) is =
    let here : becomes find i e.0 ≡ Some d = cc in
    let (events, none) = all_known find (i + 1) input ds (cc) in
    rw here (ap (λ es. d ∷ es) events, none)
all_known find i _ _ is = absurd cc

-- one of them becomes none
abbrev pub Missing : List (Option PlainDocEvent) → Type 0
Missing [] = ⊥
Missing (None ∷ os) = Unit {0}
Missing (Some d ∷ os) = Missing os

pub missing_in_front : (os ps : List (Option PlainDocEvent)) → Missing os → Missing (os ++ ps)
missing_in_front [] ps h = absurd h
missing_in_front (None ∷ os) ps h = tt
missing_in_front (Some d ∷ os) ps h = missing_in_front os ps h

pub missing_behind : (ds : List PlainDocEvent) (ps : List (Option PlainDocEvent)) → Missing ps
    → Missing (map Some ds ++ ps)
missing_behind [] ps h = h
missing_behind (d ∷ ds) ps h = missing_behind ds ps h

mark_here : (o : Option PlainDocEvent) (os : List (Option PlainDocEvent)) (m : Position) (later : Option Position)
    → Missing (o ∷ os) → (Missing os → (mark : Position) × (later ≡ Some mark))
    → (mark : Position) × (or_mark o m later ≡ Some mark)
mark_here None os m later h more = (m, refl)
mark_here (Some d) os m later h more = more h

pub one_unknown : (find : Find) (i : ℕ) (input : Input) → Missing (made find i (events_in input))
    → (mark : Position) × (unknown_mark find i input ≡ Some mark)
one_unknown find i [] h = absurd h
one_unknown find i (e ∷ input) h = mark_here (becomes find i e.0) _ e.1 _ h (one_unknown find (i + 1) input)

-- what one event leads on that ends no document, the events of a tree do
module _ (P : List PlainEvent → List PlainEvent → Type 0) (step : (e : PlainEvent) (es fs : List PlainEvent)
    → is_document_end e ≡ false → P es fs → P (e ∷ es) (e ∷ fs)) where
  mutual
    over_node : (n : Node) (es fs : List PlainEvent) → P es fs → P (node_events n es) (node_events n fs)
    over_node (alias_node a) es fs h = step _ es fs refl h
    over_node (scalar_node s) es fs h = step _ es fs refl h
    over_node (sequence_node a g ns) es fs h = step _ _ _ refl (over_nodes ns _ _ (step sequence_end es fs refl h))
    over_node (mapping_node a g ps) es fs h = step _ _ _ refl (over_pairs ps _ _ (step mapping_end es fs refl h))

    over_nodes : (ns : Nodes) (es fs : List PlainEvent) → P es fs → P (nodes_events ns es) (nodes_events ns fs)
    over_nodes no_nodes es fs h = h
    over_nodes (node n ns) es fs h = over_node n _ _ (over_nodes ns es fs h)

    over_pairs : (ps : NodePairs) (es fs : List PlainEvent) → P es fs → P (pairs_events ps es) (pairs_events ps fs)
    over_pairs no_pairs es fs h = h
    over_pairs (pair k v ps) es fs h = over_node k _ _ (over_node v _ _ (over_pairs ps es fs h))

-- the events behind a tree stand behind its own
module _ (rest : List PlainEvent) where
  abbrev Then : List PlainEvent → List PlainEvent → Type 0
  Then es fs = es ≡ fs ++ rest

  then_step : (e : PlainEvent) (es fs : List PlainEvent) → is_document_end e ≡ false → Then es fs
      → Then (e ∷ es) (e ∷ fs)
  then_step e es fs no_ h = ap (λ xs. e ∷ xs) h

  pub after_node : (n : Node) → node_events n rest ≡ node_events n [] ++ rest
  after_node n = over_node Then then_step n rest [] refl

  pub after_nodes : (ns : Nodes) → nodes_events ns rest ≡ nodes_events ns [] ++ rest
  after_nodes ns = over_nodes Then then_step ns rest [] refl

  pub after_pairs : (ps : NodePairs) → pairs_events ps rest ≡ pairs_events ps [] ++ rest
  after_pairs ps = over_pairs Then then_step ps rest [] refl

-- a document of a tree in an input behind which there is more: its events are those of the tree where it ends, and it
-- ends where there is no more
module _ (more later : List PlainEvent) where
  abbrev Splits : List PlainEvent → List PlainEvent → Type 0
  Splits es fs = (input : Input) → events_in input ++ more ≡ es → (more ≡ [] → is_ended input ≡ true)
      × (is_ended input ≡ true → (events_in (body input) ≡ fs) × (events_in (behind_document input) ++ more ≡ later))

  split_end : Splits (document_end ∷ later) []
  split_end [] is = (λ none. absurd cc, λ ended. absurd cc)
  split_end (x ∷ input) is = let end : x.0 ≡ document_end = cc in rw end (λ none. refl, λ ended. (refl, cc))

  split_step : (e : PlainEvent) (es fs : List PlainEvent) → is_document_end e ≡ false → Splits es fs
      → Splits (e ∷ es) (e ∷ fs)
  split_step e es fs no_ h [] is = (λ none. absurd cc, λ ended. absurd cc)
  split_step e es fs no_ h (x ∷ input) is =
      let same : x.0 ≡ e = cc in
      let (whole, parts) = h input (cc) in
      rw (same, no_) (whole, λ ended. let (front, rest) = parts ended in (ap (λ xs. e ∷ xs) front, rest))

  pub split_node : (root : Node) → Splits (node_events root (document_end ∷ later)) (node_events root [])
  split_node root = over_node Splits split_step root (document_end ∷ later) [] split_end
