-- What the events of a tree become: those of the resolved tree, and each target in it is a node of it.
use Rattle.std.specs.Prelude.{◌≡◌, ◌+◌, ◌∷◌, ◌++◌, ◌==◌, ◌&&◌}
use Rattle.yaml_load.proofs.Words.{ℕ, zero, suc, List, [], map, length, refl, sym, ◌∙◌, ap, subst, Bool, true, false}
use Rattle.yaml_load.proofs.Words.{IfSome, cond, arith, cases_lt, greater, max, nat_lt, bytes_eq, inl, inr, Option}
use Rattle.yaml_load.proofs.Words.{Some, None, option_map, slice_get, eq-eqb, add-one, append-nil, map-append}
use Rattle.yaml_load.proofs.Words.{PlainEvent, Position, sequence_start, sequence_end, mapping_start, mapping_end, Node}
use Rattle.yaml_load.proofs.Words.{alias_node, scalar_node, sequence_node, mapping_node, Nodes, no_nodes, node}
use Rattle.yaml_load.proofs.Words.{NodePairs, no_pairs, pair, node_events, nodes_events, pairs_events, size_of}
use Rattle.yaml_load.proofs.Words.{anchor_at, anchors_of, anchors_of_nodes, anchors_of_pairs, number_below}
use Rattle.yaml_load.proofs.Words.{greatest_below, target, becomes, DocNode, node_of, with_number, reference, word}
use Rattle.yaml_load.proofs.Words.{list, mapping, DocNodes, DocPairs, events_of, events_of_nodes, events_of_pairs}
use Rattle.yaml_load.proofs.Words.{numbered, numbered_nodes, numbered_pairs, Find, PlainDocEvent, alias, alias_to}
use Rattle.yaml_load.proofs.Words.{node_then_nodes, pair_then_pairs, resolved_from, resolved_nodes, resolved_pairs}
use Rattle.yaml_load.proofs.Words.{without_anchor}
use Rattle.yaml_load.proofs.PlainWalks.{Missing, after_node, after_nodes, after_pairs, each_at, each_at-append, made}
use Rattle.yaml_load.proofs.PlainWalks.{made_at, made_long, missing_behind, missing_in_front, name_at}

-- a node has the number
abbrev HasNumber : List (ℕ × DocNode) → ℕ → Type 0
HasNumber xs j = (n : DocNode) × (with_number j xs ≡ Some n)

number_first : (j : ℕ) (x : ℕ × DocNode) (xs : List (ℕ × DocNode)) (b : Bool) → (x.0 == j) ≡ b
    → (b ≡ false → HasNumber xs j) → HasNumber (x ∷ xs) j
number_first j x xs true is h = (x.1, ap (λ b. cond b (Some x.1) (with_number j xs)) is)
number_first j x xs false is h = ((h refl).0, ap (λ b. cond b (Some x.1) (with_number j xs)) is ∙ (h refl).1)

number_in_front : (j : ℕ) (xs ys : List (ℕ × DocNode)) → HasNumber xs j → HasNumber (xs ++ ys) j
number_in_front j [] ys h = absurd (let none = h.1 in cc)
number_in_front j (x ∷ xs) ys h =
    number_first j x (xs ++ ys) (x.0 == j) refl
    (λ no. number_in_front j xs ys (h.0, sym (ap (λ b. cond b (Some x.1) (with_number j xs)) no) ∙ h.1))

number_behind : (j : ℕ) (xs ys : List (ℕ × DocNode)) → HasNumber ys j → HasNumber (xs ++ ys) j
number_behind j [] ys h = h
number_behind j (x ∷ xs) ys h = number_first j x (xs ++ ys) (x.0 == j) refl (λ no. number_behind j xs ys h)

-- what holds of each element
abbrev pub Each : {X : Type 0} → (X → Type 0) → List X → Type 0
Each P [] = Unit {0}
Each P (x ∷ xs) = P x × Each P xs

each_append : {X : Type 0} (P : X → Type 0) (xs ys : List X) → Each P xs → Each P ys → Each P (xs ++ ys)
each_append P [] ys a b = b
each_append P (x ∷ xs) ys a b = (a.0, each_append P xs ys a.1 b)

each_more : {X : Type 0} (P Q : X → Type 0) (xs : List X) → ((x : X) → P x → Q x) → Each P xs → Each Q xs
each_more P Q [] f h = tt
each_more P Q (x ∷ xs) f h = (f x h.0, each_more P Q xs f h.1)

-- the numbers that stand beside anchors are those of nodes
abbrev Numbers : List (ℕ × DocNode) → List (List ℕ × ℕ) → Type 0
Numbers xs anchors = Each (λ (a : List ℕ × ℕ). HasNumber xs a.1) anchors

numbers_append : (xs ys : List (ℕ × DocNode)) (anchors others : List (List ℕ × ℕ)) → Numbers xs anchors
    → Numbers ys others → Numbers (xs ++ ys) (anchors ++ others)
numbers_append xs ys anchors others h k =
    each_append _ anchors others (each_more _ _ anchors (λ a n. number_in_front a.1 xs ys n) h)
    (each_more _ _ others (λ a n. number_behind a.1 xs ys n) k)

numbers_at : (anchor : Option (List ℕ)) (i : ℕ) (n : DocNode) → Numbers ((i, n) ∷ []) (anchor_at anchor i)
numbers_at None i n = tt
numbers_at (Some anchor) i n = ((n, rw (eq-eqb i i refl)), tt)

-- where an event is an alias, this holds of its target
abbrev pub Refers : (ℕ → Type 0) → PlainDocEvent → Type 0
Refers P (alias_to j) = P j
Refers P _ = Unit {0}

-- the number was found
abbrev IsFound : Find → ℕ → Type 0
IsFound find j = (a : List ℕ) × (i : ℕ) × (find a i ≡ Some j)

-- the anchors of a tree are those of its events
mutual
  pub anchors_node : (n : Node) (i : ℕ) → each_at name_at i (node_events n []) ≡ anchors_of n i
  anchors_node (alias_node a) i = refl
  anchors_node (scalar_node s) i = append-nil (anchor_at s.anchor i)
  anchors_node (sequence_node a g ns) i =
      rw (after_nodes (sequence_end ∷ []) ns, each_at-append name_at, append-nil, anchors_nodes ns (i + 1))
  anchors_node (mapping_node a g ps) i =
      rw (after_pairs (mapping_end ∷ []) ps, each_at-append name_at, append-nil, anchors_pairs ps (i + 1))

  anchors_nodes : (ns : Nodes) (i : ℕ) → each_at name_at i (nodes_events ns []) ≡ anchors_of_nodes ns i
  anchors_nodes no_nodes i = refl
  anchors_nodes (node n ns) i =
      rw (after_node (nodes_events ns []) n, each_at-append name_at, anchors_node n i, anchors_nodes ns (i + size_of n))

  anchors_pairs : (ps : NodePairs) (i : ℕ) → each_at name_at i (pairs_events ps []) ≡ anchors_of_pairs ps i
  anchors_pairs no_pairs i = refl
  anchors_pairs (pair k v ps) i =
      rw (
        after_node (node_events v (pairs_events ps [])) k,
        after_node (pairs_events ps []) v,
        each_at-append name_at,
        each_at-append name_at,
        anchors_node k i,
        anchors_node v (i + size_of k),
        anchors_pairs ps (i + size_of k + size_of v),
      )

module _ (find : Find) where
  -- events from a place on become those that are shown, among which nodes have the numbers of the anchors, and aliases
  -- have numbers that were found
  pub record Resolves (shown : List PlainDocEvent) (nodes : ℕ → List (ℕ × DocNode)) (anchors : List (List ℕ × ℕ))
      (i : ℕ) (es : List PlainEvent) : Type 0 where
    pub known : made find i es ≡ map Some shown
    pub named : Numbers (nodes i) anchors
    pub refers : Each (Refers (IsFound find)) shown

  -- the same where there is a resolved tree, else one of the events becomes none
  abbrev pub Told : {X : Type 0} → (X → List PlainDocEvent) → (X → ℕ → List (ℕ × DocNode)) → Option X
      → List (List ℕ × ℕ) → ℕ → List PlainEvent → Type 0
  Told shown nodes None anchors i es = Missing (made find i es)
  Told shown nodes (Some t) anchors i es = Resolves (shown t) (nodes t) anchors i es

  -- events in front of others
  missing_first : (i : ℕ) (es fs : List PlainEvent) → Missing (made find i es) → Missing (made find i (es ++ fs))
  missing_first i es fs h = rw (each_at-append (made_at find)) (missing_in_front (made find i es) _ h)

  module _ {shown : List PlainDocEvent} {nodes : ℕ → List (ℕ × DocNode)} {anchors : List (List ℕ × ℕ)} {i : ℕ}
      {es : List PlainEvent} where
    missing_second : (fs : List PlainEvent) → Resolves shown nodes anchors i es
        → Missing (made find (i + length es) fs) → Missing (made find i (es ++ fs))
    missing_second fs h k = rw (each_at-append (made_at find), h.known) (missing_behind shown _ k)

    resolves_both : {others : List PlainDocEvent} {more : ℕ → List (ℕ × DocNode)} {names : List (List ℕ × ℕ)}
        {fs : List PlainEvent} → Resolves shown nodes anchors i es → Resolves others more names (i + length es) fs
        → Resolves (shown ++ others) (λ k. nodes k ++ more (k + length shown)) (anchors ++ names) i (es ++ fs)
    resolves_both h k = record {
      known = rw (each_at-append (made_at find), h.known, k.known, map-append);
      named = numbers_append _ _ anchors _ h.named (rw (made_long find i es shown h.known) at k.named);
      refers = each_append _ shown _ h.refers k.refers;
    }

    -- a collection, between its start and its end
    resolves_within : (a : Option (List ℕ)) (t : DocNode) (start end : PlainEvent) (d c : PlainDocEvent)
        → becomes find i start ≡ Some d → becomes find (i + 1 + length es) end ≡ Some c
        → Refers (IsFound find) d × Refers (IsFound find) c → Resolves shown nodes anchors (i + 1) es
        → Resolves (d ∷ (shown ++ c ∷ [])) (λ k. (k, t) ∷ nodes (suc k)) (anchor_at a i ++ anchors) i
        (start ∷ (es ++ end ∷ []))
    resolves_within a t start end d c begins ends refers h = record {
      known = rw (each_at-append (made_at find), begins, ends, h.known, map-append Some shown);
      named = numbers_append ((i, t) ∷ []) (nodes (suc i)) (anchor_at a i) anchors (numbers_at a i t)
          (rw add-one at h.named);
      refers = (refers.0, each_append _ shown (c ∷ []) h.refers (refers.1, tt));
    }

  told_alias : (o : Option ℕ) (i : ℕ) (a : List ℕ) → find a i ≡ o
      → Told events_of numbered (option_map reference o) [] i (alias a ∷ [])
  told_alias None i a is = rw is tt
  told_alias (Some t) i a is = record { known = rw is; named = tt; refers = ((a, i, is), tt) }

  module _ (a g : Option (List ℕ)) (anchors : List (List ℕ × ℕ)) (i : ℕ) (es : List PlainEvent) where
    told_list : (o : Option DocNodes) → Told events_of_nodes numbered_nodes o anchors (i + 1) es
        → Told events_of numbered (option_map (list g) o) (anchor_at a i ++ anchors) i
        (sequence_start a g ∷ (es ++ sequence_end ∷ []))
    told_list None h = missing_first (i + 1) es _ h
    told_list (Some ts) h = resolves_within a (list g ts) _ _ _ _ refl refl (tt, tt) h

    told_mapping : (o : Option DocPairs) → Told events_of_pairs numbered_pairs o anchors (i + 1) es
        → Told events_of numbered (option_map (mapping g) o) (anchor_at a i ++ anchors) i
        (mapping_start a g ∷ (es ++ mapping_end ∷ []))
    told_mapping None h = missing_first (i + 1) es _ h
    told_mapping (Some ts) h = resolves_within a (mapping g ts) _ _ _ _ refl refl (tt, tt) h

  module _ (ks vs anchors : List (List ℕ × ℕ)) (i : ℕ) (es fs gs : List PlainEvent) where
    told_nodes : (o : Option DocNode) (p : Option DocNodes) → Told events_of numbered o ks i es
        → Told events_of_nodes numbered_nodes p anchors (i + length es) gs
        → Told events_of_nodes numbered_nodes (node_then_nodes o p) (ks ++ anchors) i (es ++ gs)
    told_nodes None p h k = missing_first i es gs h
    told_nodes (Some t) None h k = missing_second gs h k
    told_nodes (Some t) (Some ts) h k = resolves_both h k

    told_pairs : (o p : Option DocNode) (q : Option DocPairs) → Told events_of numbered o ks i es
        → Told events_of numbered p vs (i + length es) fs
        → Told events_of_pairs numbered_pairs q anchors (i + length es + length fs) gs
        → Told events_of_pairs numbered_pairs (pair_then_pairs o p q) (ks ++ (vs ++ anchors)) i (es ++ (fs ++ gs))
    told_pairs None p q h k l = missing_first i es _ h
    told_pairs (Some t) None q h k l = missing_second _ h (missing_first _ fs gs k)
    told_pairs (Some t) (Some u) None h k l = missing_second _ h (missing_second gs k l)
    told_pairs (Some t) (Some u) (Some ts) h k l = resolves_both h (resolves_both k l)

  mutual
    pub told_node : (n : Node) (i : ℕ)
        → Told events_of numbered (resolved_from find n i) (anchors_of n i) i (node_events n [])
    told_node (alias_node a) i = told_alias (find a i) i a refl
    told_node (scalar_node s) i =
        record { known = refl; named = numbers_at s.anchor i (word (without_anchor s)); refers = (tt, tt) }
    told_node (sequence_node a g ns) i =
        rw (after_nodes (sequence_end ∷ []) ns) (told_list a g _ i (nodes_events ns []) _ (told_all ns (i + 1)))
    told_node (mapping_node a g ps) i =
        rw (after_pairs (mapping_end ∷ []) ps) (told_mapping a g _ i (pairs_events ps []) _ (told_each ps (i + 1)))

    told_all : (ns : Nodes) (i : ℕ)
        → Told events_of_nodes numbered_nodes (resolved_nodes find ns i) (anchors_of_nodes ns i) i (nodes_events ns [])
    told_all no_nodes i = record { known = refl; named = tt; refers = tt }
    told_all (node n ns) i =
        rw (after_node (nodes_events ns []) n)
        (told_nodes _ [] _ i (node_events n []) [] _ _ _ (told_node n i) (told_all ns (i + size_of n)))

    told_each : (ps : NodePairs) (i : ℕ)
        → Told events_of_pairs numbered_pairs (resolved_pairs find ps i) (anchors_of_pairs ps i) i (pairs_events ps [])
    told_each no_pairs i = record { known = refl; named = tt; refers = tt }
    told_each (pair k v ps) i =
        rw (after_node (node_events v (pairs_events ps [])) k, after_node (pairs_events ps []) v)
        (told_pairs _ _ _ i (node_events k []) (node_events v []) _ _ _ _ (told_node k i)
        (told_node v (i + size_of k)) (told_each ps (i + size_of k + size_of v)))

-- what holds of numbers holds of the greatest of several
if_greater : (P : ℕ → Type 0) (o p : Option ℕ) → IfSome o P → IfSome p P → IfSome (greater o p) P
if_greater P None p h k = k
if_greater P (Some m) None h k = h
if_greater P (Some m) (Some n) h k = elim (cases_lt m n) [
  | inl below ↦ let e : n ≡ max m n = omega arith in subst P e k
  | inr above ↦ let e : m ≡ max m n = omega arith in subst P e h
]

if_chosen : (P : ℕ → Type 0) (b : Bool) (n : ℕ) → P n → IfSome (cond b (Some n) None) P
if_chosen P true n h = h
if_chosen P false n h = tt

if_greatest : (P : ℕ → Type 0) (bound : ℕ) (anchor : List ℕ) (anchors : List (List ℕ × ℕ))
    → Each (λ (a : List ℕ × ℕ). P a.1) anchors → IfSome (greatest_below bound anchor anchors) P
if_greatest P bound anchor [] h = tt
if_greatest P bound anchor (x ∷ xs) h =
    if_greater P (number_below bound anchor x) (greatest_below bound anchor xs)
    (if_chosen P (bytes_eq x.0 anchor && nat_lt x.1 bound) x.1 h.0) (if_greatest P bound anchor xs h.1)

-- the number is that of a node of the tree
abbrev pub IsNode : DocNode → ℕ → Type 0
IsNode root j = (n : DocNode) × (node_of root j ≡ Some n)

refers_more : (P Q : ℕ → Type 0) → ((j : ℕ) → P j → Q j) → (e : PlainDocEvent) → Refers P e → Refers Q e
refers_more P Q f (alias_to j) h = f j h
refers_more P Q f _ h = tt

-- the targets in the resolved tree of a document are its nodes
pub targets_known : (root : Node) (t : DocNode)
    → Resolves (target root) (events_of t) (numbered t) (anchors_of root 0) 0 (node_events root [])
    → Each (Refers (IsNode t)) (events_of t)
targets_known root t told =
    each_more _ _ (events_of t)
    (refers_more (IsFound (target root)) (IsNode t)
    (λ j f. subst (λ o. IfSome o (IsNode t)) f.2 (if_greatest (IsNode t) f.1 f.0 (anchors_of root 0) told.named)))
    told.refers

-- an event of a list at a place
pub event_at : (P : PlainDocEvent → Type 0) (events : List (PlainDocEvent × Position)) (p : ℕ) (e : PlainDocEvent)
    (m : Position)
    → Each P (map (λ (e : PlainDocEvent × Position). e.0) events) → slice_get events p ≡ Some (e, m) → P e
event_at P [] p e m h is = absurd (cc)
event_at P (x ∷ events) zero e m h is = let same : x.0 ≡ e = cc in subst P same h.0
event_at P (x ∷ events) (suc p) e m h is = event_at P events p e m h.1 is
