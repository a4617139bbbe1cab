-- Rows that show documents are read as these.
use Rattle.std.proofs.Common.{◌≡◌, ℕ, suc, ◌+◌, ◌≤◌, ◌∙◌, ap, arith, refl, subst, sym, List, [], ◌∷◌, ◌++◌, length}
use Rattle.std.proofs.Common.{map, take, drop, Option, None, Some, option_map}
use Rattle.std.proofs.lemmas.List.{append-nil, append_assoc, length-append, length-map, length-take-le}
use Rattle.std.proofs.lemmas.List.{take-append-drop}
use Rattle.std.specs.Prelude.{option_to_list}
use Rattle.yaml_base.specs.DocEventView.{doc_event_of, marked_events_of}
use Rattle.yaml_base.specs.ErrorText.{error_text}
use Rattle.yaml_base.specs.PlainDocEvent.{PlainDocEvent}
use Rattle.yaml_base.specs.PlainDocument.{PlainDocument}
use Rattle.yaml_base.specs.Position.{Position}
use Rattle.yaml_base.specs.declared.doc_event.DocEvent.{DocEvent}
use Rattle.yaml_base.specs.declared.error.Cause.{Cause}
use Rattle.yaml_c.proofs.ShowingLaws.{each_length}
use Rattle.yaml_c.specs.Links.{document_reach}
use Rattle.yaml_c.specs.RowDocuments.{ShownContent, ShownDocument, behind_document, documents_of_rows, fault_place}
use Rattle.yaml_c.specs.RowDocuments.{in_front, no_more, read_shown, shown_document, shown_documents, shown_each}
use Rattle.yaml_c.specs.Rows.{Shown, ShownEvent, begins, holds, shown_by}
use Rattle.yaml_c.specs.declared.rows.YamlRow.{YamlRow}
use Rattle.yaml_c.specs.inner.Showing.{Adds, Room, Shows, ShowsFirst, all_held, all_shown, shown_ending, shown_of}
use Rattle.yaml_load.specs.Ends.{ends_from, ends_of}

-- the fault of a document, as rows show it
shown_fault : Option Cause → Option (List ℕ × Position)
shown_fault ending = option_map (λ cause. (error_text cause, fault_place cause)) ending

-- an end, or a fault
read_ending : (ending : Option Cause) (rest : ShownContent × List ShownDocument)
    → in_front (shown_ending ending) rest ≡ (record { events = []; fault = shown_fault ending }, rest.1)
unfolding shown_fault
read_ending None rest = refl
read_ending (Some cause) rest = refl

-- the events of a document, and its end
read_document : (events : List (ShownEvent × Position)) (ending : Option Cause) (rest : List Shown)
    → read_shown (all_held events ++ shown_ending ending ∷ rest)
    ≡ (record { events = events; fault = shown_fault ending }, (read_shown rest).1)
read_document [] ending rest = read_ending ending (read_shown rest)
read_document ((e, place) ∷ events) ending rest = ap (in_front (holds e place)) (read_document events ending rest)

-- documents
read_all : (at : ℕ) (documents : List PlainDocument)
    → read_shown (all_shown at documents) ≡ (no_more, shown_documents at documents)
unfolding shown_fault
read_all at [] = refl
read_all at (d ∷ documents) =
    let events = shown_each at d.events (ends_of (map (λ e. e.0) d.events)) in
    let ending = shown_ending d.ending in
    let reach = document_reach at (length d.events) in
    let rest = all_shown (behind_document at d) documents in
    ap (λ (s : List Shown). in_front (begins reach) (read_shown s)) (append_assoc (all_held events) (ending ∷ []) rest)
    ∙ (ap (in_front (begins reach)) (read_document events d.ending rest)
    ∙ ap (λ (r : ShownContent × List ShownDocument). (no_more, shown_document at d ∷ r.1))
    (read_all (behind_document at d) documents))

-- rows that show all documents are these
pub rows_are_read : (source : List ℕ) (rows : List YamlRow) (texts : List ℕ) (used taken : ℕ)
    (documents : List PlainDocument)
    → Shows source (record { rows = rows; bytes = texts; used = used; taken = taken }) (all_shown 0 documents)
    → used ≤ length rows
    → taken ≤ length texts
    → documents_of_rows (take used rows) texts source ≡ shown_documents 0 documents
rows_are_read source rows texts used taken documents shows in_rows in_texts =
    ap (λ (b : List ℕ). (read_shown (map (shown_by source b) (take used rows))).1)
    (sym (take-append-drop taken texts))
    ∙ (ap (λ (s : List Shown). (read_shown s).1) (shows.rows in_rows in_texts (drop taken texts))
    ∙ ap (λ (r : ShownContent × List ShownDocument). r.1) (read_all 0 documents))

-- where collections end is told of each event
length-ends_from : (place : ℕ) (events : List PlainDocEvent) → length (ends_from place events) ≡ length events
length-ends_from place [] = refl
length-ends_from place (e ∷ events) = ap suc (length-ends_from (place + 1) events)

-- so it is in a document
pub ends_length : (ends : List ℕ) (events : List (DocEvent × Position))
    → ends ≡ ends_of (map (λ e. e.0) (marked_events_of events)) → length ends ≡ length events
ends_length ends events are =
    ap length are ∙ (length-ends_from 0 (map (λ e. e.0) (marked_events_of events))
    ∙ (length-map (marked_events_of events) (λ e. e.0) ∙ length-map events (λ e. (doc_event_of e.0, e.1))))

-- the rows of a document
shown_length : (at : ℕ) (d : PlainDocument) → at + length (shown_of at d) ≡ behind_document at d
shown_length at d =
    let plain = map (λ (e : PlainDocEvent × Position). e.0) d.events in
    let each = shown_each at d.events (ends_of plain) in
    let held = length-append (all_held each) (shown_ending d.ending ∷ []) in
    let same = length-map each (λ (e : ShownEvent × Position). holds e.0 e.1) in
    let long = each_length at d.events (ends_of plain)
    (length-ends_from 0 plain ∙ length-map d.events (λ (e : PlainDocEvent × Position). e.0)) in
    omega arith

-- one document behind others
shown_behind : (at : ℕ) (documents : List PlainDocument) (d : PlainDocument)
    → all_shown at (documents ++ d ∷ [])
    ≡ all_shown at documents ++ shown_of (at + length (all_shown at documents)) d
shown_behind at [] d =
    let same : at ≡ at + 0 = omega arith in
    append-nil (shown_of at d) ∙ ap (λ n. shown_of n d) same
shown_behind at (x ∷ documents) d =
    let front = shown_of at x in
    let next = behind_document at x in
    let rest = all_shown next documents in
    let all = length-append front rest in
    let here = shown_length at x in
    let same : next + length rest ≡ at + length (front ++ rest) = omega arith in
    ap (λ (s : List Shown). front ++ s) (shown_behind next documents d)
    ∙ (sym (append_assoc front rest (shown_of (next + length rest) d))
    ∙ ap (λ n. (front ++ rest) ++ shown_of n d) same)

-- none was shown yet
pub shows_none : (source : List ℕ) (rows : List YamlRow) (texts : List ℕ) (documents : List PlainDocument)
    → ShowsFirst source (record { rows = rows; bytes = texts; used = 0; taken = 0 }) documents documents
shows_none source rows texts documents = record {
  handed = [];
  rest = refl;
  shows = record { rows = λ in_rows in_texts more. refl };
}

-- one more was shown
pub shows_more : (source : List ℕ) (old new : Room) {all left left' : List PlainDocument} (d : PlainDocument)
    (found : Option PlainDocument)
    → ShowsFirst source old all left
    → left ≡ option_to_list found ++ left'
    → found ≡ Some d
    → Adds source old new (shown_of old.used d)
    → ShowsFirst source new all left'
shows_more source old new {all} {left} {left'} d found first items is adds = record {
  handed = first.handed ++ d ∷ [];
  rest = append_assoc first.handed (d ∷ []) left'
      ∙ (ap (λ (xs : List PlainDocument). first.handed ++ xs)
      (sym (items ∙ ap (λ (o : Option PlainDocument). option_to_list o ++ left') is)) ∙ first.rest);
  shows = record {
    rows = λ in_rows in_texts more.
        let shown = all_shown 0 first.handed in
        let room : old.used ≤ length old.rows = adds.rows in_rows in
        let front = ap length (first.shows.rows room (adds.bytes in_texts) []) in
        let same = length-map (take old.used old.rows) (shown_by source (take old.taken old.bytes ++ [])) in
        let long = length-take-le old.used old.rows room in
        let used : old.used ≡ 0 + length shown = omega arith in
        (adds.behind shown first.shows).rows in_rows in_texts more
        ∙ (ap (λ (n : ℕ). shown ++ shown_of n d) used ∙ sym (shown_behind 0 first.handed d));
  };
}

-- all were shown
pub shows_all : (source : List ℕ) (room : Room) {all left : List PlainDocument} → ShowsFirst source room all left
    → left ≡ []
    → Shows source room (all_shown 0 all)
shows_all source room {all} first none =
    subst (λ (ds : List PlainDocument). Shows source room (all_shown 0 ds))
    (sym (append-nil first.handed) ∙ (ap (λ (xs : List PlainDocument). first.handed ++ xs) (sym none) ∙ first.rest))
    first.shows
