-- The documents of a whole stream are those of its trees, each document that nothing cut off has a tree, and a stream
-- has a document.
use Rattle.std.specs.Prelude.{◌≡◌, ◌∷◌, ◌++◌, ◌≢◌}
use Rattle.yaml_load.proofs.Words.{List, [], map, refl, sym, ◌∙◌, ap, subst, append-nil, true, false, Bool, Option}
use Rattle.yaml_load.proofs.Words.{Some, None, is_some, All, inl, inr, cases_Bool, All-append, All-cons, All-nil}
use Rattle.yaml_load.proofs.Words.{Position, PlainEvent, stream_start, stream_end, document_start, PlainFault}
use Rattle.yaml_load.proofs.Words.{documents_events, stream_events, IsWellFormed, Node, node_events, target, anchors_of}
use Rattle.yaml_load.proofs.Words.{DocNode, IsTreeOf, events_of, numbered, nothing, Input, known_events, unknown_mark}
use Rattle.yaml_load.proofs.Words.{body, behind_document, is_ended, anchors_in, ending_of, document_from, documents_of}
use Rattle.yaml_load.proofs.Words.{after_starts, void_documents, last_mark, void_document, further_document}
use Rattle.yaml_load.proofs.Words.{is_open_after, events_in, resolved, alias_to, a_void, PlainDocument, IsDocumentOf}
use Rattle.yaml_load.proofs.Words.{AreDocumentsOfRoots, AreStreamDocuments, HasTree, IsAtFault, EndAtFault}
use Rattle.yaml_load.proofs.CutLaws.{at_document, fault_last}
use Rattle.yaml_load.proofs.DocumentLaws.{starts_behind, no_starts}
use Rattle.yaml_load.proofs.PlainWalks.{all_known, anchors_in-plain, one_unknown, split_node}
use Rattle.yaml_load.proofs.StreamEndings.{all_failed}
use Rattle.yaml_load.proofs.ToldNodes.{IsNode, Refers, Told, anchors_node, event_at, targets_known, told_node}

-- a document whose events, without their marks, are those of a node
told_document : (o : Option DocNode) (root : Node) (input : Input) (ended : Bool) (fault : Option PlainFault)
    → events_in input ≡ node_events root [] → ended ≡ true
    → Told (target root) events_of numbered o (anchors_of root 0) 0 (node_events root [])
    → IsDocumentOf o record {
      events = known_events (target root) 0 input;
      ending = ending_of (unknown_mark (target root) 0 input) ended fault;
    }
told_document None root input ended fault is e h =
    let (mark, there) = one_unknown (target root) 0 input (rw is h) in (mark, ap (λ m. ending_of m ended fault) there)
told_document (Some t) root input ended fault is e h =
    let (same, none) = all_known (target root) 0 input (events_of t) (rw is h.known) in
    record {
      whole = rw (none, e);
      events = same;
      known = λ p k mark here. event_at (Refers (IsNode t)) (known_events (target root) 0 input) p (alias_to k) mark
          (rw same (targets_known root t h)) here;
    }

-- the document behind a start, which ends and whose node is this root
document_of_body : (root : Node) (rest : Input) (fault : Option PlainFault)
    → events_in (body rest) ≡ node_events root [] → is_ended rest ≡ true
    → IsDocumentOf (resolved root) (document_from fault rest)
document_of_body root rest fault events ended =
    let anchors : anchors_in 0 (body rest) ≡ anchors_of root 0 =
    rw (anchors_in-plain 0 (body rest), events, anchors_node root 0) in
    rw anchors
    (told_document (resolved root) root (body rest) (is_ended rest) fault events ended
    (told_node (target root) root 0))

-- one document for each root
documents_of_roots : (roots : List Node) (input : Input) → events_in input ++ [] ≡ documents_events roots
    → AreDocumentsOfRoots roots (map (document_from None) (after_starts false input))
documents_of_roots [] (e ∷ []) is =
    let end : e.0 ≡ stream_end = cc in rw end tt
documents_of_roots (root ∷ roots) (e ∷ rest) is =
    let start : e.0 ≡ document_start = cc in
    let (whole, parts) = split_node [] (documents_events roots) root rest (cc) in
    let ended = whole refl in
    let (events, later) = parts ended in
    rw (start, starts_behind rest ended)
    (document_of_body root rest None events ended, documents_of_roots roots (behind_document rest) later)
documents_of_roots _ _ is = absurd cc

-- nothing more comes behind documents
documents_alone : (roots : List Node) (root : Node) (starts : List Input) (end : Option Position)
    → AreDocumentsOfRoots (root ∷ roots) (map (document_from None) starts)
    → AreDocumentsOfRoots (root ∷ roots) (map (document_from None) starts ++ void_documents starts end)
documents_alone roots root [] end h = absurd h
documents_alone roots root (s ∷ starts) end h =
    subst (AreDocumentsOfRoots (root ∷ roots)) (sym (append-nil (map (document_from None) (s ∷ starts)))) h

-- the documents of a whole stream
pub documents_of_stream : (roots : List Node) (input : Input) → events_in input ≡ stream_events roots
    → AreStreamDocuments roots (last_mark input) (documents_of input None)
documents_of_stream [] (s ∷ (e ∷ [])) is =
    let start : s.0 ≡ stream_start = cc in
    let end : e.0 ≡ stream_end = cc in (e.1, refl, rw (start, end))
documents_of_stream (root ∷ roots) (s ∷ input) is =
    let start : s.0 ≡ stream_start = cc in
    let rest : events_in input ≡ documents_events (root ∷ roots) = cc in
    rw start
    (documents_alone roots root (after_starts false input) _
    (documents_of_roots (root ∷ roots) input (append-nil _ ∙ rest)))
documents_of_stream _ _ is = absurd cc

-- a document of a tree has one, or was cut off
tree_of_root : (o : Option DocNode) (document : PlainDocument) → IsDocumentOf o document → HasTree document
tree_of_root None document h = λ whole. absurd (let cut = h.1 in cc)
tree_of_root (Some t) document h = λ whole. (t, h)

trees_of_roots : (roots : List Node) (documents : List PlainDocument) → AreDocumentsOfRoots roots documents
    → All HasTree documents
trees_of_roots [] [] h = All-nil HasTree
trees_of_roots (root ∷ roots) (d ∷ ds) h =
    All-cons HasTree d ds (tree_of_root (resolved root) d h.0) (trees_of_roots roots ds h.1)
trees_of_roots _ _ h = absurd h

-- the document of an empty stream
nothing_known : (mark : Position) → IsTreeOf (void_document mark) nothing
nothing_known mark = record {
  whole = refl;
  events = refl;
  known = λ p j m here. absurd (let is = event_at (λ e. e ≡ a_void) ((a_void, mark) ∷ []) p (alias_to j) m
      (refl, tt) here in cc);
}

trees_of_stream : (roots : List Node) (last : Option Position) (documents : List PlainDocument)
    → AreStreamDocuments roots last documents → All HasTree documents
trees_of_stream [] last documents h =
    rw h.2 (All-cons HasTree (void_document h.0) [] (λ whole. (nothing, nothing_known h.0)) (All-nil HasTree))
trees_of_stream (root ∷ roots) last documents h = trees_of_roots (root ∷ roots) documents h

module _ (fault : PlainFault) where
  abbrev from : Input → PlainDocument
  from start = document_from (Some fault) start

  -- the documents of a beginning of a stream, the last of which the parser's fault may cut off
  trees_of_beginning : (roots : List Node) (input : Input) (more : List PlainEvent)
      → events_in input ++ more ≡ documents_events roots → All HasTree (map from (after_starts false input))
  trees_of_beginning roots [] more is = All-nil HasTree
  trees_of_beginning [] (e ∷ []) more is =
      let end : e.0 ≡ stream_end = cc in rw end (All-nil HasTree)
  trees_of_beginning [] (e ∷ (f ∷ input)) more is = absurd (cc)
  trees_of_beginning (root ∷ roots) (e ∷ rest) more is =
      let start : e.0 ≡ document_start = cc in
      let parts = (split_node more (documents_events roots) root rest (cc)).1 in
      elim (cases_Bool (is_ended rest)) [
        | inl ended ↦
            let (events, later) = parts ended in
            let starts : after_starts false (e ∷ rest) ≡ rest ∷ after_starts false (behind_document rest) =
            rw (start, starts_behind rest ended) in
            subst (λ s. All HasTree (map from s)) (sym starts)
            (All-cons HasTree (from rest) (map from (after_starts false (behind_document rest)))
            (tree_of_root (resolved root) (from rest) (document_of_body root rest (Some fault) events ended))
            (trees_of_beginning roots (behind_document rest) more later))
        | inr unended ↦
            let starts : after_starts false (e ∷ rest) ≡ rest ∷ [] = rw (start, no_starts rest unended) in
            subst (λ s. All HasTree (map from s)) (sym starts)
            (All-cons HasTree (from rest) []
            (λ whole. absurd (subst (IsAtFault fault) whole (at_document rest fault unended))) (All-nil HasTree))
      ]

  trees_of_front : (roots : List Node) (input : Input) (more : List PlainEvent)
      → events_in input ++ more ≡ stream_events roots → All HasTree (map from (after_starts false input))
  trees_of_front roots [] more is = All-nil HasTree
  trees_of_front roots (s ∷ input) more is =
      let start : s.0 ≡ stream_start = cc in rw start (trees_of_beginning roots input more (cc))

-- each document that nothing cut off has a tree
pub whole_has_tree : (input : Input) (fault : Option PlainFault) → IsWellFormed (is_some fault) (events_in input)
    → All HasTree (documents_of input fault)
whole_has_tree input None h = trees_of_stream h.0 (last_mark input) (documents_of input None)
    (documents_of_stream h.0 input h.1)
whole_has_tree input (Some fault) h =
    All-append HasTree (map (from fault) (after_starts false input)) (further_document input (Some fault))
    (trees_of_front fault h.0.1.0 input h.0.0 h.0.1.1)
    (all_failed HasTree fault (is_open_after false input) (λ whole. absurd cc))

-- a stream has a document
none_of_stream : (roots : List Node) (last : Option Position) → AreStreamDocuments roots last [] → ⊥
none_of_stream [] last h = let one = h.2 in cc
none_of_stream (root ∷ roots) last h = h

pub has_some : (input : Input) (fault : Option PlainFault) → IsWellFormed (is_some fault) (events_in input)
    → documents_of input fault ≢ []
has_some input None h = λ none.
    none_of_stream h.0 _ (subst (AreStreamDocuments h.0 (last_mark input)) none (documents_of_stream h.0 input h.1))
has_some input (Some fault) h = λ none. subst (EndAtFault fault) none (fault_last input fault)
