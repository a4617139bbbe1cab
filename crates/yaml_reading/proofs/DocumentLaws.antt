-- The documents that stand are read, and what is read stands.
use Rattle.std.proofs.Common.{◌≡◌, ℕ, zero, suc, ◌+◌, ◌<◌, ◌≤◌, ◌==◌, ◌&&◌, Bool, true, false, List, []}
use Rattle.std.proofs.Common.{◌∷◌, ◌++◌, length, Option, Some, None, refl, sym, ap, ◌∙◌, arith, subst, inl, inr}
use Rattle.std.proofs.Common.{append-nil, drop}
use Rattle.std.specs.Prelude.{nat_le, option_map}
use Rattle.std.proofs.lemmas.Bool.{false≢true, and_from, and_parts, and_right, eq-eqb, false_from_ne_true, le-leb}
use Rattle.std.proofs.lemmas.Bool.{leb-true}
use Rattle.std.proofs.lemmas.Bool.{or_left, or_parts}
use Rattle.yaml_base.specs.PlainEvent.{document_end, document_start, stream_end, stream_start}
use Rattle.yaml_grammar.specs.Blocks.{BlockNode, anything, value}
use Rattle.yaml_grammar.specs.Bytes.{at, column, is_over, is_text, is_triple, parts_documents}
use Rattle.yaml_grammar.specs.Documents.{Documents, Earlier, Root, Stands, a_document, an_end, bare_document}
use Rattle.yaml_grammar.specs.Documents.{begins_document, end_marker, ends_document}
use Rattle.yaml_grammar.specs.Documents.{has_document, marked_document, marker_at, most_nestings, no_document, no_root}
use Rattle.yaml_grammar.specs.Documents.{none, root_in_a_later_line, root_in_its_line}
use Rattle.yaml_grammar.specs.Gaps.{ends_its_line, next}
use Rattle.yaml_grammar.specs.Names.{unnamed}
use Rattle.yaml_grammar.specs.Nodes.{Document, Marked, Node, documents_events, end_mark, events_of, mark, no_content}
use Rattle.yaml_grammar.specs.Nodes.{node_events}
use Rattle.yaml_reading.specs.DocumentReader.{Further, bare_step, document_begun, document_then, documents_at}
use Rattle.yaml_reading.specs.DocumentReader.{documents_step, end_step, marked_step, no_further, over_step, root_at}
use Rattle.yaml_reading.specs.DocumentReader.{root_node, root_step, stream_step, text_events}
use Rattle.yaml_reading.specs.Readers.{Read, Reader, and_event, and_node}
use Rattle.yaml_reading.specs.Refused.{NothingStands}
use Rattle.yaml_reading.proofs.Begins.{byte_behind}
use Rattle.yaml_reading.proofs.BlockComplete.{node_of}
use Rattle.yaml_reading.proofs.BlockForward.{node_forward}
use Rattle.yaml_reading.proofs.BlockSound.{columns_sound, node_sound}
use Rattle.yaml_reading.proofs.BracketForward.{next_ahead}
use Rattle.yaml_reading.proofs.DocumentSteps.{begins_byte, document_between, documents_are, ends_byte, marker_is}
use Rattle.yaml_reading.proofs.DocumentSteps.{node_no_percent, root_anything, root_is}
use Rattle.yaml_reading.proofs.DocumentSteps.{root_value, text_is}
use Rattle.yaml_reading.proofs.Options.{map_some, no_some, pair_is, same_some}
use Rattle.yaml_reading.proofs.SameNodes.{same_events}

both : {b : Bool} → b ≡ true → b ≡ false → ⊥
both t f = false≢true (sym f ∙ t)

module _ (text : List ℕ) where
  root_of : {i j : ℕ} {n : Node} → Root text i j n → (es : List Marked)
      → root_at text (root_node text) es i ≡ Some (and_node es n, j)
  root_of (root_in_its_line {i = i} line n) es =
      root_is text (root_node text) es i false _ line refl
      ∙ root_value text es (next text i) ∙ node_of text n most_nestings (omega arith) es
  root_of (root_in_a_later_line {i = i} line inside n) es =
      root_is text (root_node text) es i true false line inside
      ∙ root_anything text es (next text i) ∙ node_of text n most_nestings (omega arith) es
  root_of (no_root {i = i} line over) es = root_is text (root_node text) es i true true line over

  root_forward : {i j : ℕ} {n : Node} → Root text i j n → i ≤ j
  root_forward (root_in_its_line {i = i} line n) = omega (arith, next_ahead text i, node_forward text n)
  root_forward (root_in_a_later_line {i = i} line inside n) = omega (arith, next_ahead text i, node_forward text n)
  root_forward (no_root {i = i} line over) = next_ahead text i

  record IsRoot (i j : ℕ) (es es' : List Marked) : Type 0 where
    n : Node
    stands : Root text i j n
    said : es' ≡ and_node es n

  root_by : (es : List Marked) (i : ℕ) (es' : List Marked) (j : ℕ) (x y : Bool) → ends_its_line text i ≡ x
      → is_over text (next text i) ≡ y → root_step text (root_node text) es i x y ≡ Some (es', j) → IsRoot i j es es'
  root_by es i es' j false y line over h =
      let s = node_sound text most_nestings (columns_sound text most_nestings) 0 value es (next text i) es' j
      (sym (root_value text es (next text i)) ∙ h) in
      record { n = s.n; stands = root_in_its_line line s.stands; said = s.said }
  root_by es i es' j true false line over h =
      let s = node_sound text most_nestings (columns_sound text most_nestings) 0 anything es (next text i) es' j
      (sym (root_anything text es (next text i)) ∙ h) in
      record { n = s.n; stands = root_in_a_later_line line over s.stands; said = s.said }
  root_by es i es' j true true line over h =
      let n = no_content (end_mark text 0 (next text i)) unnamed [] in
      let q = pair_is (and_node es n) es' (next text i) j h in
      record { n = n; stands = subst (λ j. Root text i j n) q.1 (no_root line over); said = sym q.0 }

  root_sound : (es : List Marked) (i : ℕ) (es' : List Marked) (j : ℕ)
      → root_at text (root_node text) es i ≡ Some (es', j) → IsRoot i j es es'
  root_sound es i es' j h = root_by es i es' j _ _ refl refl
      (sym (root_is text (root_node text) es i _ _ refl refl) ∙ h)

  -- where a document or `...` begins the text is not past
  not_past : (i c : ℕ) → at text i ≡ c → (c == 0) ≡ false → nat_le (length text) i ≡ false
  not_past i c byte other =
      false_from_ne_true (nat_le (length text) i)
      (λ past. both (eq-eqb (at text i) 0 (byte_behind text i (leb-true (length text) i past)))
      (ap (λ b. b == 0) byte ∙ other))

  not_over : (i : ℕ) → is_over text i ≡ false → nat_le (length text) i ≡ false
  not_over i h = (or_parts (nat_le (length text) i) (parts_documents text i) h).0

  -- the turns that are left
  some_turn : (i : ℕ) → nat_le (length text) i ≡ false → length text ≤ 0 + i → ⊥
  some_turn i inside on = both (le-leb (length text) i (omega (arith, on))) inside

  past_over : (i j : ℕ) → is_over text i ≡ false → is_over text j ≡ true → i ≤ j → i < j
  past_over i j inside over on = less i j on (λ same. both over (ap (is_over text) (sym same) ∙ inside))
    where
      less : (i j : ℕ) → i ≤ j → (i ≡ j → ⊥) → i < j
      less i j on other = grind (arith, on, other)

  -- `...` begins no document
  marker_no_end : (earlier : Earlier) (i m : ℕ) → marker_at text earlier i ≡ Some m → ends_document text i ≡ false
  marker_no_end earlier i m h =
      false_from_ne_true (ends_document text i) (λ e. elim (marker_is text earlier i m h) [
        | inl b ↦ omega (arith, begins_byte text i b.0, ends_byte text i e)
        | inr b ↦ omega (arith, b.0, ends_byte text i e)
      ])

  marker_inside : (earlier : Earlier) (i m : ℕ) → marker_at text earlier i ≡ Some m
      → nat_le (length text) i ≡ false
  marker_inside earlier i m h = elim (marker_is text earlier i m h) [
    | inl b ↦ not_past i 45 (begins_byte text i b.0) refl
    | inr b ↦ not_past i 37 b.0 refl
  ]

  marker_forward : (earlier : Earlier) (i m : ℕ) → marker_at text earlier i ≡ Some m → i ≤ m
  marker_forward earlier i m h = elim (marker_is text earlier i m h) [ inl b ↦ b.1 | inr b ↦ b.1 ]

  parts_is : (i : ℕ) → begins_document text i ≡ true → parts_documents text i ≡ true
  parts_is i b =
      let p = and_parts (column text i == 0) (is_triple 45 (drop i text)) b in
      and_from (column text i == 0) _ p.0 (or_left (is_triple 45 (drop i text)) _ p.1)

  -- a document that no `---` begins
  no_marker : {j : ℕ} {n : Node} (i : ℕ) → is_over text i ≡ false → BlockNode text most_nestings 0 anything i j n
      → marker_at text none i ≡ None
  no_marker i inside n = by_marker (marker_at text none i) refl
    where
      by_marker : (o : Option ℕ) → marker_at text none i ≡ o → o ≡ None
      by_marker None e = refl
      by_marker (Some m) e = elim (marker_is text none i m e) [
        | inl b ↦ absurd (both (parts_is i b.0) (or_parts (nat_le (length text) i) (parts_documents text i) inside).1)
        | inr b ↦ absurd (node_no_percent text n b.0)
      ]

  abbrev node : Bool → Reader
  node = root_node text

  documents_of : {earlier : Earlier} {i : ℕ} {ds : List Document} → Documents text earlier i ds → (es : List Marked)
      (t : ℕ) → length text ≤ t + i → documents_at text node t earlier es i ≡ Some (es ++ documents_events ds)
  documents_of (no_document {earlier = earlier} {i = i} past) es t on =
      documents_are text node t earlier es i true _ past refl ∙ ap Some (sym (append-nil es))
  documents_of (end_marker {earlier = earlier} {i = i} has ends line rest) es zero on =
      absurd (some_turn i (not_past i 46 (ends_byte text i ends) refl) on)
  documents_of (end_marker {earlier = earlier} {i = i} has ends line rest) es (suc t) on =
      documents_are text node (suc t) earlier es i false true (not_past i 46 (ends_byte text i ends) refl)
      (and_from (has_document earlier) (ends_document text i) has ends)
      ∙ ap (end_step text (documents_at text node t) es i) line
      ∙ documents_of rest es t (omega (arith, on, next_ahead text (i + 3)))
  documents_of (bare_document {i = i} inside n over rest) es zero on = absurd (some_turn i (not_over i inside) on)
  documents_of (bare_document {i = i} {j = j} {n = n} {ds = ds} inside x over rest) es (suc t) on =
      let more = documents_at text node t in
      let begun = document_begun text es i in
      let end : Marked = (document_end, end_mark text 0 j) in
      documents_are text node (suc t) none es i false false (not_over i inside) refl
      ∙ ap (marked_step text node more none es i) (no_marker i inside x)
      ∙ ap (bare_step text node more none es i) inside
      ∙ ap (document_then text more) (root_anything text begun i ∙ node_of text x most_nestings (omega arith) begun)
      ∙ ap (over_step text more (and_node begun n) j) over
      ∙ documents_of rest (and_event (and_node begun n) end) t
      (omega (arith, on, past_over i j inside over (node_forward text x)))
      ∙ ap Some (document_between es (node_events n) (documents_events ds) (document_start, mark text i) end)
  documents_of (marked_document {earlier = earlier} {i = i} {m = m} marker x over rest) es zero on =
      absurd (some_turn i (marker_inside earlier i m marker) on)
  documents_of (marked_document {earlier = earlier} {i = i} {m = m} {j = j} {n = n} {ds = ds} marker x over rest) es
      (suc t) on =
      let more = documents_at text node t in
      let begun = document_begun text es i in
      let end : Marked = (document_end, end_mark text 0 j) in
      documents_are text node (suc t) earlier es i false false (marker_inside earlier i m marker)
      (and_right (has_document earlier) (ends_document text i) (marker_no_end earlier i m marker))
      ∙ ap (marked_step text node more earlier es i) marker
      ∙ ap (document_then text more) (root_of x begun)
      ∙ ap (over_step text more (and_node begun n) j) over
      ∙ documents_of rest (and_event (and_node begun n) end) t
      (omega (arith, on, marker_forward earlier i m marker, root_forward x))
      ∙ ap Some (document_between es (node_events n) (documents_events ds) (document_start, mark text i) end)

  record AreDocuments (earlier : Earlier) (i : ℕ) (es es' : List Marked) : Type 0 where
    ds : List Document
    stand : Documents text earlier i ds
    said : es' ≡ es ++ documents_events ds

  -- what is read further on stands
  abbrev FurtherSound : Further → Type 0
  FurtherSound more =
      (earlier : Earlier) (es : List Marked) (i : ℕ) (es' : List Marked) → more earlier es i ≡ Some es'
      → AreDocuments earlier i es es'

  -- a root behind which nothing else stands in the document
  record IsFollowed (more : Further) (r : Read) (es' : List Marked) : Type 0 where
    xs : List Marked
    j : ℕ
    read : r ≡ Some (xs, j)
    over : is_over text j ≡ true
    rest : more a_document (and_event xs (document_end, end_mark text 0 j)) j ≡ Some es'

  over_by : (more : Further) (xs : List Marked) (j : ℕ) (es' : List Marked) (x : Bool) → is_over text j ≡ x
      → over_step text more xs j x ≡ Some es' → IsFollowed more (Some (xs, j)) es'
  over_by more xs j es' true over h = record { xs = xs; j = j; read = refl; over = over; rest = h }
  over_by more xs j es' false over h = absurd (no_some es' h)

  followed : (more : Further) (r : Read) (es' : List Marked) → document_then text more r ≡ Some es'
      → IsFollowed more r es'
  followed more None es' h = absurd (no_some es' h)
  followed more (Some (xs, j)) es' h = over_by more xs j es' (is_over text j) refl h

  -- the events of a document and those behind it
  said_by : (es : List Marked) (i j : ℕ) (n : Node) (xs es' : List Marked) (ds : List Document)
      → xs ≡ and_node (document_begun text es i) n
      → es' ≡ and_event xs (document_end, end_mark text 0 j) ++ documents_events ds
      → es' ≡ es ++ documents_events (record { start = mark text i; root = n; end = end_mark text 0 j } ∷ ds)
  said_by es i j n xs es' ds root rest =
      rest ∙ ap (λ l. and_event l (document_end, end_mark text 0 j) ++ documents_events ds) root
      ∙ document_between es (node_events n) (documents_events ds) (document_start, mark text i)
      (document_end, end_mark text 0 j)

  bare_by : (more : Further) → FurtherSound more → (earlier : Earlier) (es : List Marked) (i : ℕ) (es' : List Marked)
      (x : Bool) → is_over text i ≡ x → bare_step text node more earlier es i x ≡ Some es'
      → AreDocuments earlier i es es'
  bare_by more sound a_document es i es' x inside h = absurd (no_some es' h)
  bare_by more sound an_end es i es' x inside h = absurd (no_some es' h)
  bare_by more sound none es i es' true inside h = absurd (no_some es' h)
  bare_by more sound none es i es' false inside h =
      let begun = document_begun text es i in
      let f = followed more (node false begun i) es' h in
      let s = node_sound text most_nestings (columns_sound text most_nestings) 0 anything begun i f.xs f.j
      (sym (root_anything text begun i) ∙ f.read) in
      let rest = sound a_document (and_event f.xs (document_end, end_mark text 0 f.j)) f.j es' f.rest in
      record {
        ds = record { start = mark text i; root = s.n; end = end_mark text 0 f.j } ∷ rest.ds;
        stand = bare_document inside s.stands f.over rest.stand;
        said = said_by es i f.j s.n f.xs es' rest.ds s.said rest.said;
      }

  marked_by : (more : Further) → FurtherSound more → (earlier : Earlier) (es : List Marked) (i : ℕ) (es' : List Marked)
      (o : Option ℕ) → marker_at text earlier i ≡ o → marked_step text node more earlier es i o ≡ Some es'
      → AreDocuments earlier i es es'
  marked_by more sound earlier es i es' None marker h = bare_by more sound earlier es i es' (is_over text i) refl h
  marked_by more sound earlier es i es' (Some m) marker h =
      let begun = document_begun text es i in
      let f = followed more (root_at text node begun (m + 3)) es' h in
      let s = root_sound begun (m + 3) f.xs f.j f.read in
      let rest = sound a_document (and_event f.xs (document_end, end_mark text 0 f.j)) f.j es' f.rest in
      record {
        ds = record { start = mark text i; root = s.n; end = end_mark text 0 f.j } ∷ rest.ds;
        stand = marked_document marker s.stands f.over rest.stand;
        said = said_by es i f.j s.n f.xs es' rest.ds s.said rest.said;
      }

  end_by : (more : Further) → FurtherSound more → (earlier : Earlier) (es : List Marked) (i : ℕ) (es' : List Marked)
      (x : Bool) → (has_document earlier && ends_document text i) ≡ true → ends_its_line text (i + 3) ≡ x
      → end_step text more es i x ≡ Some es' → AreDocuments earlier i es es'
  end_by more sound earlier es i es' false ends line h = absurd (no_some es' h)
  end_by more sound earlier es i es' true ends line h =
      let p = and_parts (has_document earlier) (ends_document text i) ends in
      let rest = sound an_end es (next text (i + 3)) es' h in
      record { ds = rest.ds; stand = end_marker p.0 p.1 line rest.stand; said = rest.said }

  documents_by : (more : Further) → FurtherSound more → (earlier : Earlier) (es : List Marked) (i : ℕ)
      (es' : List Marked) (x y : Bool) → nat_le (length text) i ≡ x → (has_document earlier && ends_document text i) ≡ y
      → documents_step text node more earlier es i x y ≡ Some es' → AreDocuments earlier i es es'
  documents_by more sound earlier es i es' true y past ends h =
      record { ds = []; stand = no_document past; said = sym (same_some es es' h) ∙ sym (append-nil es) }
  documents_by more sound earlier es i es' false true past ends h =
      end_by more sound earlier es i es' (ends_its_line text (i + 3)) ends refl h
  documents_by more sound earlier es i es' false false past ends h =
      marked_by more sound earlier es i es' (marker_at text earlier i) refl h

  documents_sound : (t : ℕ) → FurtherSound (documents_at text node t)
  documents_sound zero earlier es i es' h =
      documents_by no_further (λ earlier es i es' h. absurd (no_some es' h)) earlier es i es' _ _ refl refl
      (sym (documents_are text node zero earlier es i _ _ refl refl) ∙ h)
  documents_sound (suc t) earlier es i es' h =
      documents_by (documents_at text node t) (documents_sound t) earlier es i es' _ _ refl refl
      (sym (documents_are text node (suc t) earlier es i _ _ refl refl) ∙ h)

-- the event that begins a stream
abbrev stream_begun : List ℕ → List Marked
stream_begun text = (stream_start, mark text 0) ∷ []

abbrev stream_ended : List ℕ → List Marked → List Marked
stream_ended text es = and_event es (stream_end, end_mark text 0 (length text))

-- what stands in a text is read
pub text_read : (text : List ℕ) (documents : List Document) → Stands text documents
    → text_events text ≡ Some (events_of text documents)
text_read text ds s =
    text_is text true s.characters
    ∙ ap (option_map (stream_ended text))
    (documents_of text s.from_first_token (stream_begun text) (length text) (omega arith))

-- what is read stands in it
stream_by : (text : List ℕ) (es : List Marked) (x : Bool) → is_text text ≡ x
    → option_map (stream_ended text) (stream_step text x) ≡ Some es
    → (documents : List Document) × Stands text documents × (es ≡ events_of text documents)
stream_by text es false allowed h = absurd (no_some es h)
stream_by text es true allowed h =
    let m = map_some (stream_step text true) (stream_ended text) es h in
    let d = documents_sound text (length text) none (stream_begun text) (next text 0) m.0 m.1 in
    (d.ds, record { characters = allowed; from_first_token = d.stand }, sym m.2 ∙ ap (stream_ended text) d.said)

pub text_stands : (text : List ℕ) (es : List Marked) → text_events text ≡ Some es
    → (documents : List Document) × Stands text documents × (es ≡ events_of text documents)
text_stands text es h = stream_by text es (is_text text) refl (sym (text_is text (is_text text) refl) ∙ h)

-- where nothing is read nothing stands
pub nothing_read : (text : List ℕ) → ◌≡◌ {A = Option (List Marked)} (text_events text) None → NothingStands text
nothing_read text h documents s = no_some (events_of text documents) (sym h ∙ text_read text documents s)

-- one reading
pub one_text : (text : List ℕ) (a b : List Document) → Stands text a → Stands text b → a ≡ b
one_text text a b x y =
    same_events text a b (same_some _ _ (sym (text_read text a x) ∙ text_read text b y))
