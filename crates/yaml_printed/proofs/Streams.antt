-- Printed documents stand in their text.
use Rattle.std.proofs.Common.{◌≡◌, ℕ, ◌+◌, true, false, refl, sym}
use Rattle.std.proofs.Common.{subst, ap, ◌∙◌, arith, List, [], ◌∷◌, ◌++◌, length, append_assoc}
use Rattle.std.proofs.lemmas.Bool.{false≢true}
use Rattle.std.specs.List.{flat_map}
use Rattle.yaml_base.specs.EmitEvents.{emit_stream_end, emit_document_end}
use Rattle.yaml_base.specs.EmitTree.{EmitNode}
use Rattle.yaml_base.specs.EmitTree.{emit_node_events, emit_documents_events}
use Rattle.yaml_base.specs.MarkedEvents.{events_in}
use Rattle.yaml_base.specs.PlainEvent.{document_end, stream_end}
use Rattle.yaml_base.specs.Renders.{Renders}
use Rattle.yaml_emit.specs.Places.{root_place}
use Rattle.yaml_emit.specs.StreamTexts.{emit_stream_events, later_document, node_text}
use Rattle.yaml_emit.specs.StreamTexts.{stream_text}
use Rattle.yaml_emit.specs.declared.open.Lead.TheVariants.{Fresh, Text}
use Rattle.yaml_grammar.specs.Bytes.{at, is_gap, is_text, is_triple, parts}
use Rattle.yaml_grammar.specs.Documents.{Documents, a_document, bare_document, begins_document}
use Rattle.yaml_grammar.specs.Documents.{marked_document, no_document, none}
use Rattle.yaml_grammar.specs.Nodes.{Document, documents_events, end_mark, mark, node_events}
use Rattle.yaml_grammar.proofs.LineLaws.{is_end}
use Rattle.yaml_printed.specs.Printable.{FirstIsSomething, StandsFor, RootsPrintable, no_roots, a_root}
use Rattle.yaml_printed.proofs.Aheads.{Ahead, at_end, ends_document}
use Rattle.yaml_printed.proofs.Finds.{renders_append}
use Rattle.yaml_printed.proofs.Rests.{Rest, rest_is, rest_skip, whole_rest}
use Rattle.yaml_printed.proofs.Rests.{begins_token, next_token}
use Rattle.yaml_printed.proofs.TreeEnds.{Line, begins_gap, behind_text, line_behind, line_column, more_gap}
use Rattle.yaml_printed.proofs.TreeEnds.{node_feed, node_gap}
use Rattle.yaml_printed.proofs.Roots.{token_over, root_first, root_later, ahead_over}

module _ (text : List ℕ) where
  record DocumentsFound (i : ℕ) (roots : List EmitNode) : Type 0 where
    documents : List Document
    stand : Documents text a_document i documents
    same : Renders (emit_documents_events roots) (events_in (documents_events documents))

  gap_at : (xs : List ℕ) → begins_gap xs ≡ true → is_gap (at xs 0) ≡ true
  gap_at [] h = absurd (false≢true h)
  gap_at (c ∷ cs) h = h

  marker_gap : (root : EmitNode) (rest : List ℕ) → is_triple 45 (45 ∷ 45 ∷ 45
      ∷ (node_text (root_place Text) root ++ rest)) ≡ true
  marker_gap root rest =
      gap_at (node_text (root_place Text) root ++ rest) (more_gap (node_text (root_place Text) root) rest
      (node_gap Text 0 0 root behind_text))

  later_ahead : (roots : List EmitNode) (e : ℕ) → Rest text e (flat_map later_document roots) → Line text e
      → Ahead text 0 e e (flat_map later_document roots)
  later_ahead roots e r l = record {
    blanks = 0;
    token = flat_map later_document roots;
    rest = r;
    is = refl;
    begins = begins roots;
    start = l;
    there = omega arith;
    stops = at_end refl (ends roots);
  }
    where
      begins : (roots : List EmitNode) → begins_token (flat_map later_document roots) ≡ true
      begins [] = refl
      begins (root ∷ roots) = refl

      ends : (roots : List EmitNode) → ends_document (flat_map later_document roots) ≡ true
      ends [] = refl
      ends (root ∷ roots) =
          ap parts (append_assoc (45 ∷ 45 ∷ 45 ∷ []) (node_text (root_place Text) root) (flat_map later_document roots))
          ∙ rw (marker_gap root (flat_map later_document roots)) refl

  documents_renders : (root : EmitNode) (roots : List EmitNode) (d : Document) (ds : List Document)
      → Renders (emit_node_events root) (events_in (node_events d.root))
      → Renders (emit_documents_events roots) (events_in (documents_events ds))
      → Renders (emit_documents_events (root ∷ roots)) (events_in (documents_events (d ∷ ds)))
  documents_renders root roots d ds one more = (
    refl,
    subst (λ l. Renders l (events_in (node_events d.root ++ ((document_end, d.end) ∷ documents_events ds))))
        (sym (append_assoc (emit_node_events root) (emit_document_end ∷ []) (emit_documents_events roots)))
        (renders_append (emit_node_events root) (emit_document_end ∷ emit_documents_events roots) (node_events d.root)
        ((document_end, d.end) ∷ documents_events ds) one (refl, more)),
  )

  documents_stand : (roots : List EmitNode) → RootsPrintable roots → (i : ℕ)
      → Rest text i (flat_map later_document roots)
      → Line text i → DocumentsFound i roots
  documents_stand [] no_roots i r l = record { documents = []; stand = no_document (is_end text i r.same); same = tt }
  documents_stand (root ∷ roots) (a_root f fs) i r l =
      let own = node_text (root_place Text) root in
      let rest = flat_map later_document roots in
      let r1 : Rest text i (45 ∷ 45 ∷ 45 ∷ (own ++ rest)) = rest_is (append_assoc (45 ∷ 45 ∷ 45 ∷ []) own rest) r in
      let r2 : Rest text (i + 3) (own ++ rest) = rest_skip (45 ∷ 45 ∷ 45 ∷ []) r1 in
      let e = i + 3 + length own in
      let r3 : Rest text e rest = rest_skip own r2 in
      let line : Line text e = line_behind own rest (i + 3) r2 (node_feed root (root_place Text) refl false) in
      let a = later_ahead roots e r3 line in
      let x = root_later text f refl refl (i + 3) e e rest r2 a in
      let more = documents_stand roots fs e r3 line in
      let d : Document = record { start = mark text i; root = x.node; end = end_mark text 0 e } in
      let begins : begins_document text i ≡ true = rw (line_column l, r1.same) (marker_gap root rest) in
      record {
        documents = d ∷ more.documents;
        stand =
            marked_document {n = x.node} {ds = more.documents} (rw begins refl) x.root (ahead_over text a) more.stand;
        same = documents_renders root roots d more.documents x.same more.same;
      }

pub stream_stands : (roots : List EmitNode) → RootsPrintable roots → FirstIsSomething roots
    → is_text (stream_text roots) ≡ true → StandsFor (emit_stream_events roots) (stream_text roots)
stream_stands [] no_roots first characters = record {
  documents = [];
  stand = record { characters = characters; from_first_token = no_document refl };
  same = (refl, (refl, tt));
}
stream_stands (root ∷ roots) (a_root f fs) first characters =
    let text = stream_text (root ∷ roots) in
    let own = node_text (root_place Fresh) root in
    let rest = flat_map later_document roots in
    let r : Rest text 0 (own ++ rest) = whole_rest text in
    let e = 0 + length own in
    let r1 : Rest text e rest = rest_skip own r in
    let line : Line text e = line_behind own rest 0 r (node_feed root (root_place Fresh) refl false) in
    let a = later_ahead text roots e r1 line in
    let x = root_first text f refl first 0 e e rest r refl a in
    let more = documents_stand text roots fs e r1 line in
    let d : Document = record { start = mark text 0; root = x.here.node; end = end_mark text 0 e } in
    let s = next_token r x.token.token in
    record {
      documents = d ∷ more.documents;
      stand = record {
        characters = characters;
        from_first_token = subst (λ k. Documents text none k (d ∷ more.documents)) (sym s.there)
            (bare_document {n = x.here.node} {ds = more.documents} (token_over text 0 (own ++ rest) x.token r)
            x.here.stands (ahead_over text a) more.stand);
      };
      same = (
        refl,
        renders_append (emit_documents_events (root ∷ roots)) (emit_stream_end ∷ [])
            (documents_events (d ∷ more.documents)) ((stream_end, end_mark text 0 (length text)) ∷ [])
            (documents_renders text root roots d more.documents x.here.same more.same) (refl, tt),
      );
    }
