-- Where a document ends, its draft becomes the last of the documents.
use Rattle.std.specs.Prelude.{◌≡◌, ◌+◌, ◌<◌, ◌∷◌, ◌++◌}
use Rattle.yaml_load.proofs.Words.{Events, Marked, ℕ, List, [], map, length, take, drop, min, false, refl, sym, ◌∙◌, ap}
use Rattle.yaml_load.proofs.Words.{arith, append-nil, length-take, length-drop, Option, Some, None, option_map}
use Rattle.yaml_load.proofs.Words.{slice_get, drop-append_seam, take-add, take-append_seam, take-append-add, length-map}
use Rattle.yaml_load.proofs.Words.{take-append-drop, take-map, Position, PlainFault, Cause, doc_event_of}
use Rattle.yaml_load.proofs.Words.{marked_events_of, Find, Input, anchors_in, document_of, ending_of, find_in}
use Rattle.yaml_load.proofs.Words.{known_events, unknown_mark, ends_of, AreCuts, documents_in, ending_in}
use Rattle.yaml_load.proofs.Words.{plain_doc_events, PlainDocEvent, PlainDocument, DocEvent, Cut, Draft, IsDraftBetween}
use Rattle.yaml_load.proofs.Words.{All-push, HasEnds, map-append, length-append, IsDraft, drafts_of, settled}
use Rattle.yaml_load.proofs.Words.{bounded_from}
use Rattle.yaml_load.proofs.Gatherings.{documents_in_front, has_ends_behind, has_ends_more, length-ends_of}
use Rattle.yaml_load.proofs.Gatherings.{plain_doc_events-marked, range_behind}
use Rattle.yaml_load.proofs.SettledEnds.{ends_of_cut, ends_of_whole}
use Rattle.yaml_load.proofs.SettledLaws.{IsSettled, settled_whole}

abbrev held : Marked → Option Cause → PlainDocument
held events ending = record { events = events; ending = ending }

-- as many shown events as events
marked_long : (events : Events) → length (marked_events_of events) ≡ length events
marked_long events = length-map events (λ (e : DocEvent × Position). (doc_event_of e.0, e.1))

-- the numbers of shown events
shown_ends : (events : Events) (shown : Marked) → marked_events_of events ≡ shown
    → ends_of (map (λ (e : PlainDocEvent × Position). e.0) shown) ≡ ends_of (plain_doc_events events)
shown_ends events shown is = rw (← is, plain_doc_events-marked events)

-- numbers behind others, each of them bounded
bounded_behind : (bound : ℕ) (front numbers : List ℕ) → bounded_from bound (length front) (front ++ numbers)
    ≡ front ++ map (min bound) numbers
bounded_behind bound [] numbers = refl
bounded_behind bound (x ∷ front) numbers = ap (λ ns. x ∷ ns) (bounded_behind bound front numbers)

-- documents with one more behind them
pub between_more : (events more : Events) (numbers ends : List ℕ) (old : List Cut) (documents : List PlainDocument)
    (new : Draft) (cut : Cut)
    → length numbers ≡ length events → AreCuts events numbers old → documents_in events old ≡ documents
    → new.events.items ≡ events ++ more → new.ends.numbers ≡ numbers ++ ends → ends ≡ ends_of (plain_doc_events more)
    → new.ends.unended ≡ [] → new.anchors.named.items ≡ [] → new.anchors.aliases.items ≡ []
    → new.cuts.items ≡ old ++ cut ∷ [] → cut.from ≡ length events → cut.to ≡ length new.events.items
    → IsDraftBetween (documents ++ held (marked_events_of more) (ending_in cut.error) ∷ []) new
between_more events more numbers ends old documents new cut long cuts shown whole all are unended named aliases pushed
    begin end =
    let to = end ∙ ap length whole in
    let many = length-ends_of ends more are in
    record {
      long = rw (whole, all) (omega (arith, long, many, length-append events more, length-append numbers ends));
      unended = unended;
      named = named;
      aliases = aliases;
      cuts =
          rw (whole, all, pushed)
          (All-push (λ (c : Cut). HasEnds (events ++ more) (numbers ++ ends) c.from c.to) old cut
          (λ k d l. has_ends_more events more numbers ends _ _ (cuts k d l))
          (has_ends_behind events more numbers ends cut.from cut.to long are begin to));
      shown = rw (
        whole,
        pushed,
        map-append,
        documents_in_front events more numbers old cuts,
        shown,
        range_behind events more cut.from cut.to begin to,
      );
    }

module _ {events : Events} {numbers : List ℕ} {seen : Input} {old : Draft} (h : IsDraft events numbers seen old) where
  abbrev find : Find
  find = find_in (anchors_in 0 seen)

  -- the events of all documents, and in them the document's
  front_is : take old.from old.events.items ≡ events
  front_is = rw (h.whole, h.from, take-append_seam events h.now)

  now_is : drop old.from old.events.items ≡ h.now
  now_is = rw (h.whole, h.from, drop-append_seam events h.now)

  abbrev Closed : Draft → Cut → Type 0
  Closed new cut = (new.ends.unended ≡ []) × (new.anchors.named.items ≡ []) × (new.anchors.aliases.items ≡ [])
      × (new.cuts.items ≡ old.cuts.items ++ cut ∷ []) × (cut.from ≡ old.from) × (cut.to ≡ length new.events.items)

  -- a document of which these events are known
  closed : (new : Draft) (cut : Cut) (more : Events) (ends : List ℕ) (unknown : Option Position)
      (fault : Option PlainFault) → AreCuts events numbers old.cuts.items → Closed new cut
      → new.events.items ≡ events ++ more → marked_events_of more ≡ known_events find 0 seen
      → new.ends.numbers ≡ numbers ++ ends → ends ≡ ends_of (plain_doc_events more)
      → unknown ≡ unknown_mark find 0 seen → ending_in cut.error ≡ ending_of unknown false fault
      → IsDraftBetween (documents_in events old.cuts.items ++ document_of (anchors_in 0 seen) seen false fault ∷ []) new
  closed new cut more ends unknown fault cuts (u, n, a, p, from, to) whole shown all are mark ending =
      rw (← shown, ← mark, ← ending)
      (between_more events more numbers ends old.cuts.items _ new cut h.long cuts refl whole all are u n a p
      (from ∙ h.from) to)

  -- what the aliases made of the events
  module _ (late : Events) (o : Option ℕ)
      (is : settled (find_in old.anchors.named.items) old.anchors.aliases.items
      (marked_events_of (drop old.from old.events.items)) ≡ (marked_events_of late, o)) where
    same : IsSettled find 0 seen [] (marked_events_of late, o)
    same =
        let is' : settled find old.anchors.aliases.items (marked_events_of h.now) ≡ (marked_events_of late, o) =
        rw (← now_is, ← h.named) is in
        settled_whole find seen (marked_events_of h.now) (marked_events_of late) old.anchors.aliases.items o h.nodes
        h.taken is'

  -- every alias is known
  pub closed_whole : (new : Draft) (cut : Cut) (fault : Option PlainFault) → AreCuts events numbers old.cuts.items
      → settled (find_in old.anchors.named.items) old.anchors.aliases.items
      (marked_events_of (drop old.from old.events.items))
      ≡ (marked_events_of (drop old.from new.events.items), None)
      → take old.from new.events.items ≡ take old.from old.events.items
      → new.ends.numbers ≡ numbers ++ ends_of (drafts_of seen)
      → Closed new cut → ending_in cut.error ≡ ending_of None false fault
      → IsDraftBetween (documents_in events old.cuts.items ++ document_of (anchors_in 0 seen) seen false fault ∷ []) new
  closed_whole new cut fault cuts is front all c ending =
      let late = drop old.from new.events.items in
      let found = same late None is in
      closed new cut late (ends_of (drafts_of seen)) None fault cuts c
      (sym (take-append-drop old.from new.events.items) ∙ ap (λ es. es ++ late) (front ∙ front_is)) found.0 all
      (sym (ends_of_whole find seen found.1) ∙ shown_ends late _ found.0) (sym found.1) ending

  -- an alias is unknown, and the document is cut off there
  pub closed_cut : (new : Draft) (cut : Cut) (fault : Option PlainFault) (settled_events : Events) (at : ℕ)
      (mark : Position) (all : List ℕ) → AreCuts events numbers old.cuts.items
      → settled (find_in old.anchors.named.items) old.anchors.aliases.items
      (marked_events_of (drop old.from old.events.items))
      ≡ (marked_events_of (drop old.from settled_events), Some at)
      → take old.from settled_events ≡ take old.from old.events.items → old.from + at < length settled_events
      → Some mark ≡ option_map (λ (e : PlainDocEvent × Position). e.1)
      (slice_get (marked_events_of (drop old.from settled_events)) at)
      → new.events.items ≡ take (old.from + at) settled_events → all ≡ numbers ++ ends_of (drafts_of seen)
      → new.ends.numbers ≡ bounded_from at old.from (take (old.from + at) all)
      → Closed new cut → ending_in cut.error ≡ ending_of (Some mark) false fault
      → IsDraftBetween (documents_in events old.cuts.items ++ document_of (anchors_in 0 seen) seen false fault ∷ []) new
  closed_cut new cut fault settled_events at mark all cuts is front within marked taken numbered bounded c ending =
      let late = drop old.from settled_events in
      let found = same late (Some at) is in
      let ends = take at (ends_of (drafts_of seen)) in
      let known : marked_events_of (take at late) ≡ known_events find 0 seen = sym (take-map _ at late) ∙ found.0 in
      let begin : old.from ≡ length numbers = h.from ∙ sym h.long in
      let size : at ≡ length (known_events find 0 seen) =
      omega (
        arith,
        ap length known,
        marked_long (take at late),
        length-take at late,
        length-drop old.from settled_events,
      ) in
      closed new cut (take at late) (map (min at) ends) (Some mark) fault cuts c
      (taken ∙ take-add old.from at settled_events ∙ ap (λ es. es ++ take at late) (front ∙ front_is)) known
      (rw (bounded, numbered, begin, take-append-add) (bounded_behind at numbers ends))
      (sym (ends_of_cut find seen at size) ∙ shown_ends (take at late) _ known) (marked ∙ sym found.1) ending

-- a document without events behind others
pub failed_more : {old : Draft} {documents : List PlainDocument} (h : IsDraftBetween documents old) (new : Draft)
    (cut : Cut)
    → new.events ≡ old.events → new.ends ≡ old.ends → new.anchors ≡ old.anchors
    → new.cuts.items ≡ old.cuts.items ++ cut ∷ [] → cut.from ≡ length old.events.items → cut.to ≡ cut.from
    → IsDraftBetween (documents ++ held [] (ending_in cut.error) ∷ []) new
failed_more {old} h new cut events ends anchors pushed begin end =
    between_more old.events.items [] old.ends.numbers [] old.cuts.items _ new cut h.long h.cuts h.shown
    (rw (events, append-nil)) (rw (ends, append-nil)) refl (rw ends h.unended) (rw anchors h.named)
    (rw anchors h.aliases) pushed begin (rw events (end ∙ begin))
