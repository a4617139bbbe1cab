-- The events of documents that stand in a text.
use Rattle.std.proofs.Common.{◌≡◌, ℕ, suc, ◌+◌, ◌≤◌, ◌==◌, ◌&&◌, ◌||◌, List, [], ◌∷◌, ◌++◌, Option, Some, None, arith}
use Rattle.std.proofs.Common.{length, subst, sym, true, drop, ◌∙◌, refl}
use Rattle.std.specs.Prelude.{All, codes, if◌then◌else◌, nat_eq}
use Rattle.std.specs.List.{starts_with}
use Rattle.std.specs.List.Sorted.{IsNonDecreasingBy}
use Rattle.std.proofs.lemmas.Bool.{and_parts, eqb-true}
use Rattle.std.proofs.lemmas.List.{get_or-drop}
use Rattle.std.proofs.lemmas.List.Elements.{All-weaker}
use Rattle.yaml_base.specs.PlainEvent.{document_end, document_start, stream_end, stream_start}
use Rattle.yaml_grammar.specs.Bytes.{at, column, is_triple}
use Rattle.yaml_grammar.specs.Documents.{Documents, Earlier, Root, Stands, bare_document, begins_document}
use Rattle.yaml_grammar.specs.Documents.{behind_directive, directive_end, end_marker, marked_document, marker_at}
use Rattle.yaml_grammar.specs.Documents.{no_document, no_root, root_in_a_later_line, root_in_its_line}
use Rattle.yaml_grammar.specs.Documents.{takes_directive}
use Rattle.yaml_grammar.specs.Gaps.{ends_its_line, next}
use Rattle.yaml_grammar.specs.Names.{count_while, unnamed}
use Rattle.yaml_grammar.specs.Nodes.{Document, Marked, Node, documents_events, end_mark, events_of, mark, no_content}
use Rattle.yaml_grammar.specs.Nodes.{node_events}
use Rattle.yaml_reading.proofs.BracketForward.{next_ahead}
use Rattle.yaml_reading.proofs.Options.{either, no_some, same_some}
use Rattle.yaml_parse.specs.Places.{IsInPlace}
use Rattle.yaml_parse.specs.PlainText.{SaysSource}
use Rattle.yaml_parse.specs.Shown.{IsShown}
use Rattle.yaml_checked.proofs.ColumnEvents.{UpToToken, block_events, earlier, nothing_at_end}
use Rattle.yaml_checked.proofs.StandingEvents.{EventStands, StandBetween, all_ascend, all_stand, all_within}
use Rattle.yaml_checked.proofs.StandingEvents.{end_placed, from_earlier, joined, no_scalar, placed}
use Rattle.yaml_checked.proofs.StandingScalars.{end_index}
use Rattle.yaml_checked.proofs.TokenPlaces.{IsPlace, next_place}
use Rattle.yaml_checked.proofs.WithinText.{by_test, byte_inside}

-- three bytes stand there
triple_inside : (text : List ℕ) (c i : ℕ) → is_triple (suc c) (drop i text) ≡ true → i + 3 ≤ length text
triple_inside text c i h =
    let bytes = drop i text in
    let second = (and_parts (at bytes 0 == suc c) _ h).1 in
    let third = (and_parts (at bytes 1 == suc c) _ second).1 in
    let byte = eqb-true (at bytes 2) (suc c) (and_parts (at bytes 2 == suc c) _ third).0 in
    let inside = byte_inside text (i + 2) c (sym (get_or-drop i text 2 0) ∙ byte) in
    omega (arith, inside)

-- where the `---` of a document stands
abbrev MarkerStands : List ℕ → ℕ → Option ℕ → Type 0
MarkerStands text i o = (m : ℕ) → o ≡ Some m → (i ≤ m) × (m + 3 ≤ length text)

no_marker : (text : List ℕ) (i : ℕ) → MarkerStands text i None
no_marker text i m h = absurd (no_some m h)

this_marker : (text : List ℕ) (i k : ℕ) → i ≤ k → begins_document text k ≡ true → MarkerStands text i (Some k)
this_marker text i k low begins m h =
    subst (λ n. (i ≤ n) × (n + 3 ≤ length text)) (same_some k m h)
    (low, triple_inside text 44 k (and_parts (column text k == 0) _ begins).1)

directive_ahead : (text : List ℕ) (i e : ℕ) → directive_end text i ≡ Some e → i ≤ e
directive_ahead text i e =
    let number = i + 6 + count_while (nat_eq 32) (drop (i + 6) text) in
    either (λ o. o ≡ Some e → i ≤ e)
    (column text i == 0 && (starts_with nat_eq (drop i text) (codes "%YAML ") && (at text number == 49
    && (at text (number + 1) == 46 && (at text (number + 2) == 49 || at text (number + 2) == 50)))))
    (Some (number + 3)) None
    (λ h. subst (λ n. i ≤ n) (same_some (number + 3) e h) (omega arith))
    (λ h. absurd (no_some e h))

behind_stands : (text : List ℕ) (i : ℕ) (o : Option ℕ) → ((e : ℕ) → o ≡ Some e → i ≤ e)
    → MarkerStands text i (behind_directive text o)
behind_stands text i None ahead = no_marker text i
behind_stands text i (Some e) ahead =
    let q = next text e in
    let le = ahead e refl in
    by_test (MarkerStands text i) (ends_its_line text e && begins_document text q) (Some q) None
    (λ all. this_marker text i q (omega (arith, le, next_ahead text e))
    (and_parts (ends_its_line text e) (begins_document text q) all).1)
    (λ _. no_marker text i)

marker_stands : (text : List ℕ) (before : Earlier) (i : ℕ) → MarkerStands text i (marker_at text before i)
marker_stands text before i =
    let other = behind_directive text (directive_end text i) in
    by_test (MarkerStands text i) (begins_document text i) (Some i) (if takes_directive before then other else None)
    (this_marker text i i (omega arith))
    (λ _. either (MarkerStands text i) (takes_directive before) other None
    (behind_stands text i (directive_end text i) (directive_ahead text i)) (no_marker text i))

root_events : (text : List ℕ) {i j : ℕ} {n : Node} → Root text i j n → i ≤ length text
    → UpToToken text i j (node_events n)
root_events text (root_in_its_line {i = i} {j = j} {n = n} ends node) within =
    earlier text i (next text i) j (node_events n) (next_ahead text i)
    (block_events text node (next_place text i within))
root_events text (root_in_a_later_line {i = i} {j = j} {n = n} ends inner node) within =
    earlier text i (next text i) j (node_events n) (next_ahead text i)
    (block_events text node (next_place text i within))
root_events text (no_root {i = i} ends over) within =
    earlier text i (next text i) (next text i) (node_events (no_content (end_mark text 0 (next text i)) unnamed []))
    (next_ahead text i)
    (nothing_at_end text 0 (next text i) (next_place text i within))

-- a document, and those behind it
document_events : (text : List ℕ) (i k j : ℕ) (n : Node) (ds : List Document) → i ≤ k
    → UpToToken text k j (node_events n) → StandBetween text j (length text) (documents_events ds)
    → StandBetween text i (length text)
    (documents_events (record { start = mark text i; root = n; end = end_mark text 0 j } ∷ ds))
document_events text i k j n ds low root others =
    let end = end_mark text 0 j in
    let same = end_index text 0 j in
    let after : StandBetween text end.index (length text) (documents_events ds) =
    from_earlier text j end.index (length text) (documents_events ds) (omega (arith, same)) others in (
      omega arith,
      no_scalar text document_start (mark text i) refl (placed text i),
      joined text i j (length text) (node_events n) ((document_end, end) ∷ documents_events ds)
          (from_earlier text k i j (node_events n) low root.0.0)
          (omega (arith, same), no_scalar text document_end end refl (end_placed text 0 j), after),
    )

all_documents : (text : List ℕ) {before : Earlier} {i : ℕ} {ds : List Document} → Documents text before i ds
    → IsPlace text i → StandBetween text i (length text) (documents_events ds)
all_documents text (no_document over) place = place.within
all_documents text (end_marker {i = i} {ds = ds} some ends line others) place =
    let inside = triple_inside text 45 i (and_parts (column text i == 0) _ ends).1 in
    let q = next text (i + 3) in
    from_earlier text q i (length text) (documents_events ds) (omega (arith, next_ahead text (i + 3)))
    (all_documents text others (next_place text (i + 3) inside))
all_documents text (bare_document {i = i} {j = j} {n = n} {ds = ds} inner node over others) place =
    let root = block_events text node place in
    document_events text i i j n ds (omega arith) root (all_documents text others root.1)
all_documents text (marked_document {earlier = before} {i = i} {m = m} {j = j} {n = n} {ds = ds} marked node over more)
    place =
    let marker = marker_stands text before i m marked in
    let root = root_events text node marker.1 in
    document_events text i (m + 3) j n ds (omega (arith, marker.0)) root (all_documents text more root.1)

-- all events of a text
events_stand : (text : List ℕ) (documents : List Document) → Stands text documents
    → StandBetween text 0 (length text) (events_of text documents)
events_stand text documents stands =
    let n = length text in
    let end = end_mark text 0 n in
    let same = end_index text 0 n in
    let start = next text 0 in
    let es = documents_events documents in
    let inner = all_documents text stands.from_first_token (next_place text 0 (omega arith)) in
    let last = no_scalar text stream_end end refl (end_placed text 0 n) in
    let all : StandBetween text 0 n (es ++ (stream_end, end) ∷ []) =
    joined text 0 n n es ((stream_end, end) ∷ []) (from_earlier text start 0 n es (omega arith) inner)
    (omega (arith, same), last, omega (arith, same)) in
    (omega arith, no_scalar text stream_start (mark text 0) refl (placed text 0), all)

pub events_within : (text : List ℕ) (documents : List Document) → Stands text documents
    → All (λ (e : Marked). e.1.index ≤ length text) (events_of text documents)
events_within text documents stands =
    all_within text 0 (length text) (events_of text documents) (events_stand text documents stands)

pub events_ascend : (text : List ℕ) (documents : List Document) → Stands text documents
    → IsNonDecreasingBy (λ (e : Marked). e.1.index) (events_of text documents)
events_ascend text documents stands =
    all_ascend text 0 (length text) (events_of text documents) (events_stand text documents stands)

pub events_in_place : (text : List ℕ) (documents : List Document) → Stands text documents
    → All (λ (e : Marked). IsInPlace text e.1) (events_of text documents)
events_in_place text documents stands =
    All-weaker (EventStands text) (λ (e : Marked). IsInPlace text e.1) (λ e s. s.placed) (events_of text documents)
    (all_stand text 0 (length text) (events_of text documents) (events_stand text documents stands))

pub events_shown : (text : List ℕ) (documents : List Document) → Stands text documents
    → All (λ (e : Marked). IsShown text e.0 e.1) (events_of text documents)
events_shown text documents stands =
    All-weaker (EventStands text) (λ (e : Marked). IsShown text e.0 e.1) (λ e s. s.shown) (events_of text documents)
    (all_stand text 0 (length text) (events_of text documents) (events_stand text documents stands))

pub events_say : (text : List ℕ) (documents : List Document) → Stands text documents
    → All (λ (e : Marked). SaysSource e.0) (events_of text documents)
events_say text documents stands =
    All-weaker (EventStands text) (λ (e : Marked). SaysSource e.0) (λ e s. s.says) (events_of text documents)
    (all_stand text 0 (length text) (events_of text documents) (events_stand text documents stands))
