-- Where the node of a document ends.
use Rattle.std.proofs.Common.{◌≡◌, ℕ, zero, suc, ◌+◌, ◌-◌, List, [], ◌∷◌, ◌++◌, map, length, drop, refl, sym, ◌∙◌, ap, arith}
use Rattle.std.proofs.Common.{append_assoc, subst, length-drop}
use Rattle.std.specs.Prelude.{Option, None, Some}
use Rattle.std.proofs.lemmas.List.{map-append, length-map}
use Rattle.yaml_base.specs.DocTree.{DocNode, DocNodes, DocPairs, nothing, reference, word, list, mapping, no_nodes, node}
use Rattle.yaml_base.specs.DocTree.{no_pairs, pair, events_of, events_of_nodes, events_of_pairs}
use Rattle.yaml_base.specs.PlainDocEvent.{PlainDocEvent, sequence_ends, mapping_ends}
use Rattle.yaml_tape.specs.OnDocs.{docs_from, doc_by}
use Rattle.yaml_tape.specs.declared.tape.Tape.{Tape}
use Rattle.serde_yaml.specs.TapeReads.{behind}

-- events of one part and those of another, and what is left
two : (a b : List PlainDocEvent) (d : List (Option PlainDocEvent))
    → map Some (a ++ b) ++ d ≡ map Some a ++ (map Some b ++ d)
two a b d = ap (λ z. z ++ d) (map-append Some a b) ∙ append_assoc (map Some a) (map Some b) d

mutual
  -- within a collection, a node is stepped over
  inner : (k : ℕ) (n : DocNode) (rest : List (Option PlainDocEvent))
      → behind (suc k) (map Some (events_of n) ++ rest) ≡ behind (suc k) rest
  inner k nothing rest = refl
  inner k (reference j) rest = refl
  inner k (word w) rest = refl
  inner k (list tag ns) rest =
      ap (behind (suc (suc k))) (two (events_of_nodes ns) (sequence_ends ∷ []) rest)
      ∙ inner_nodes (suc k) ns (Some sequence_ends ∷ rest)
  inner k (mapping tag ps) rest =
      ap (behind (suc (suc k))) (two (events_of_pairs ps) (mapping_ends ∷ []) rest)
      ∙ inner_pairs (suc k) ps (Some mapping_ends ∷ rest)

  inner_nodes : (k : ℕ) (ns : DocNodes) (rest : List (Option PlainDocEvent))
      → behind (suc k) (map Some (events_of_nodes ns) ++ rest) ≡ behind (suc k) rest
  inner_nodes k no_nodes rest = refl
  inner_nodes k (node n ns) rest =
      ap (behind (suc k)) (two (events_of n) (events_of_nodes ns) rest)
      ∙ (inner k n (map Some (events_of_nodes ns) ++ rest) ∙ inner_nodes k ns rest)

  inner_pairs : (k : ℕ) (ps : DocPairs) (rest : List (Option PlainDocEvent))
      → behind (suc k) (map Some (events_of_pairs ps) ++ rest) ≡ behind (suc k) rest
  inner_pairs k no_pairs rest = refl
  inner_pairs k (pair m n ps) rest =
      ap (behind (suc k)) (two (events_of m) (events_of n ++ events_of_pairs ps) rest)
      ∙ (inner k m (map Some (events_of n ++ events_of_pairs ps) ++ rest)
      ∙ (ap (behind (suc k)) (two (events_of n) (events_of_pairs ps) rest)
      ∙ (inner k n (map Some (events_of_pairs ps) ++ rest) ∙ inner_pairs k ps rest)))

-- behind a node stands what follows its events
pub behind_node : (n : DocNode) (rest : List (Option PlainDocEvent)) → behind 0 (map Some (events_of n) ++ rest) ≡ rest
behind_node nothing rest = refl
behind_node (reference j) rest = refl
behind_node (word w) rest = refl
behind_node (list tag ns) rest =
    ap (behind 1) (two (events_of_nodes ns) (sequence_ends ∷ []) rest) ∙ inner_nodes 0 ns (Some sequence_ends ∷ rest)
behind_node (mapping tag ps) rest =
    ap (behind 1) (two (events_of_pairs ps) (mapping_ends ∷ []) rest) ∙ inner_pairs 0 ps (Some mapping_ends ∷ rest)

-- so the place behind it is the one where the document ends
pub same_end : (t : Tape) (n : DocNode) (place end : ℕ) → docs_from t 2 ≡ map Some (events_of n) ++ docs_from t place
    → docs_from t end ≡ behind 0 (docs_from t 2) → length t.entries.items ≡ end + 2 → place ≡ end
same_end t n place end events there all =
    let same : docs_from t end ≡ docs_from t place =
    there ∙ (ap (behind 0) events ∙ behind_node n (docs_from t place)) in
    let doc = doc_by t.text.now t.arena.items t.names.items in
    let counts : length (map doc (drop end t.entries.items)) ≡ length (map doc (drop place t.entries.items)) =
    ap length same in
    let sizes = rw (
      length-map (drop end t.entries.items) doc,
      length-map (drop place t.entries.items) doc,
      length-drop end t.entries.items,
      length-drop place t.entries.items,
    ) at counts in
    omega (arith, sizes, all)
