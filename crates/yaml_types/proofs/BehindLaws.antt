-- The place behind a node: there the nodes end that begin in one place.
use Rattle.std.proofs.Common.{◌≡◌, ◌≢◌, ◌<◌, ◌+◌, ◌-◌, ℕ, zero, suc, List, [], ◌∷◌, ◌++◌, map, drop, length, refl, sym}
use Rattle.std.proofs.Common.{◌∙◌, ap, subst, arith}
use Rattle.std.specs.Prelude.{Option, Some}
use Rattle.yaml_base.specs.DocTree.{DocNode, DocNodes, DocPairs, nothing, reference, word, list, mapping, no_nodes}
use Rattle.yaml_base.specs.DocTree.{node, no_pairs, pair, events_of, events_of_nodes, events_of_pairs}
use Rattle.yaml_base.specs.PlainDocEvent.{PlainDocEvent, sequence_ends, mapping_ends}
use Rattle.yaml_tape.specs.OnDocs.{docs_from, doc_by}
use Rattle.yaml_tape.specs.declared.tape.Tape.{Tape}
use Rattle.yaml_tape.specs.declared.entry.Entry.{Entry}
use Rattle.yaml_types.specs.Behind.{one_less, opened, where_closed, behind}
use Rattle.yaml_types.proofs.NodeReads.{two, closed}

pub less_is : (n : ℕ) → one_less n ≡ n - 1
less_is zero = refl
less_is (suc n) = omega arith

-- ---- within a collection that stays open, nodes are passed
mutual
  node_passed : (n : DocNode) (k : ℕ) (rest : List (Option PlainDocEvent))
      → behind (suc k) (map Some (events_of n) ++ rest) ≡ behind (suc k) rest
  node_passed nothing k rest = refl
  node_passed (reference j) k rest = refl
  node_passed (word s) k rest = refl
  node_passed (list tag ns) k rest =
      ap (behind (suc (suc k))) (sym (closed (events_of_nodes ns) sequence_ends rest))
      ∙ nodes_passed ns (suc k) (Some sequence_ends ∷ rest)
  node_passed (mapping tag ps) k rest =
      ap (behind (suc (suc k))) (sym (closed (events_of_pairs ps) mapping_ends rest))
      ∙ pairs_passed ps (suc k) (Some mapping_ends ∷ rest)

  nodes_passed : (ns : DocNodes) (k : ℕ) (rest : List (Option PlainDocEvent))
      → behind (suc k) (map Some (events_of_nodes ns) ++ rest) ≡ behind (suc k) rest
  nodes_passed no_nodes k rest = refl
  nodes_passed (node n ns) k rest =
      ap (behind (suc k)) (sym (two (events_of n) (events_of_nodes ns) rest))
      ∙ (node_passed n k (map Some (events_of_nodes ns) ++ rest) ∙ nodes_passed ns k rest)

  pairs_passed : (ps : DocPairs) (k : ℕ) (rest : List (Option PlainDocEvent))
      → behind (suc k) (map Some (events_of_pairs ps) ++ rest) ≡ behind (suc k) rest
  pairs_passed no_pairs k rest = refl
  pairs_passed (pair m n ps) k rest =
      ap (behind (suc k)) (sym (two (events_of m) (events_of n ++ events_of_pairs ps) rest))
      ∙ (node_passed m k (map Some (events_of n ++ events_of_pairs ps) ++ rest)
      ∙ (ap (behind (suc k)) (sym (two (events_of n) (events_of_pairs ps) rest))
      ∙ (node_passed n k (map Some (events_of_pairs ps) ++ rest) ∙ pairs_passed ps k rest)))

-- behind a node stands what stands behind its events
pub node_behind : (n : DocNode) (rest : List (Option PlainDocEvent)) → behind 0 (map Some (events_of n) ++ rest) ≡ rest
node_behind nothing rest = refl
node_behind (reference j) rest = refl
node_behind (word s) rest = refl
node_behind (list tag ns) rest =
    ap (behind 1) (sym (closed (events_of_nodes ns) sequence_ends rest))
    ∙ nodes_passed ns 0 (Some sequence_ends ∷ rest)
node_behind (mapping tag ps) rest =
    ap (behind 1) (sym (closed (events_of_pairs ps) mapping_ends rest))
    ∙ pairs_passed ps 0 (Some mapping_ends ∷ rest)

-- ---- a walk over the tape
still_open : (n : ℕ) (a b : List (Option PlainDocEvent)) → n ≢ 0 → where_closed n a b ≡ b
still_open zero a b h = absurd (h refl)
still_open (suc n) a b h = refl

module _ (t : Tape) (p q : ℕ) (e : Entry) (depth inner : ℕ) (rest : List (Option PlainDocEvent))
    (next : docs_from t p ≡ doc_by t.text.now t.arena.items t.names.items e ∷ docs_from t q)
    (is : inner ≡ opened depth (doc_by t.text.now t.arena.items t.names.items e)) where
  -- an entry is passed
  one_more : behind depth (docs_from t p) ≡ where_closed inner (docs_from t q) (behind inner (docs_from t q))
  one_more =
      ap (behind depth) next ∙ ap (λ n. where_closed n (docs_from t q) (behind n (docs_from t q))) (sym is)

  -- it is the last
  pub walk_ends : inner ≡ 0 → behind depth (docs_from t p) ≡ rest → docs_from t q ≡ rest
  walk_ends none h =
      ap (λ n. where_closed n (docs_from t q) (behind inner (docs_from t q))) (sym none) ∙ (sym one_more ∙ h)

  -- it is not
  pub walk_goes : inner ≢ 0 → behind depth (docs_from t p) ≡ rest → behind inner (docs_from t q) ≡ rest
  walk_goes some h =
      sym (still_open inner (docs_from t q) (behind inner (docs_from t q)) some) ∙ (sym one_more ∙ h)

-- ---- places of the tape
rest_of : {A B : Type 0} (f : A → B) (es : List A) (p : ℕ) (d : B) (rest : List B) → map f (drop p es) ≡ d ∷ rest
    → (p < length es) × (map f (drop (suc p) es) ≡ rest)
rest_of f [] zero d rest h = absurd cc
rest_of f [] (suc p) d rest h = absurd cc
rest_of f (x ∷ es) zero d rest h = (omega arith, cc)
rest_of f (x ∷ es) (suc p) d rest h =
    let (within, is) = rest_of f es p d rest h in (omega (arith, within), is)

-- a place where something stands is on the tape, and behind it stands the rest
pub place_there : (t : Tape) (p : ℕ) (d : Option PlainDocEvent) (rest : List (Option PlainDocEvent))
    → docs_from t p ≡ d ∷ rest → p < length t.entries.items
place_there t p d rest h = (rest_of (doc_by t.text.now t.arena.items t.names.items) t.entries.items p d rest h).0

-- where the walk over a node ended in front of an event, what was read of the node ends there
pub ends_there : (t : Tape) (from to walked : ℕ) (n : DocNode) (d : Option PlainDocEvent)
    → docs_from t from ≡ map Some (events_of n) ++ docs_from t to
    → docs_from t walked ≡ behind 0 (docs_from t from) → docs_from t walked ≡ d ∷ docs_from t (walked + 1)
    → docs_from t to ≡ d ∷ docs_from t (to + 1)
ends_there t from to walked n d h w e =
    let same : docs_from t walked ≡ docs_from t to =
    w ∙ (ap (behind 0) h ∙ node_behind n (docs_from t to)) in
    let there : docs_from t to ≡ d ∷ docs_from t (walked + 1) = sym same ∙ e in
    let rest : docs_from t (suc to) ≡ docs_from t (walked + 1) =
    (rest_of (doc_by t.text.now t.arena.items t.names.items) t.entries.items to d (docs_from t (walked + 1)) there).1 in
    let next : suc to ≡ to + 1 = omega arith in
    there ∙ ap (λ l. d ∷ l) (subst (λ p. docs_from t (walked + 1) ≡ docs_from t p) next (sym rest))
