-- What is added to the rows in a room.
use Rattle.std.proofs.Common.{◌≡◌, ℕ, ◌+◌, ◌≤◌, ◌<◌, ◌∙◌, ap, sym, subst, List, [], ◌∷◌, ◌++◌, length, map}
use Rattle.std.proofs.Common.{arith, get_or, take}
use Rattle.std.proofs.Math.ListN.{get_or-map}
use Rattle.std.proofs.Math.Nat.{min-eq_left}
use Rattle.std.proofs.lemmas.Grind.{take_at_read}
use Rattle.std.proofs.lemmas.List.{append-nil, append_assoc, length-map, map-append, take_all}
use Rattle.std.proofs.lemmas.Slice.Zip.{get_or-zip, length-zip}
use Rattle.std.specs.List.{zip}
use Rattle.yaml_base.specs.DocEventView.{doc_event_of, marked_events_of}
use Rattle.yaml_base.specs.PlainDocEvent.{PlainDocEvent}
use Rattle.yaml_base.specs.Position.{Position}
use Rattle.yaml_base.specs.declared.doc_event.DocEvent.{DocEvent}
use Rattle.yaml_c.proofs.RoomLaws.{holds_on}
use Rattle.yaml_c.specs.Links.{document_reach}
use Rattle.yaml_c.specs.RowDocuments.{shown_each, shown_event}
use Rattle.yaml_c.specs.Rows.{Shown, ShownEvent, begins, holds, shown_by}
use Rattle.yaml_c.specs.declared.rows.YamlRow.{YamlRow}
use Rattle.yaml_c.specs.inner.Room.{Grows, IsPut}
use Rattle.yaml_c.specs.inner.Showing.{Adds, IsRowOf, Room, Shows, all_held, shown_events}

-- one row more
adds_row : (source : List ℕ) (row : YamlRow) (shown : Shown) {rows rows' : List YamlRow} {n n' : ℕ}
    {texts texts' : List ℕ} {m m' : ℕ}
    → IsPut rows n rows' n' row
    → Grows texts m texts' m'
    → IsRowOf source texts' m' row shown
    → Adds source (record { rows = rows; bytes = texts; used = n; taken = m })
    (record { rows = rows'; bytes = texts'; used = n'; taken = m' }) (shown ∷ [])
adds_row source row shown {rows} {rows'} {n} {n'} {texts} {texts'} {m} {m'} put grows is = record {
  rows = put.room;
  bytes = grows.room;
  behind = λ (before : List Shown)
      (old : Shows source (record { rows = rows; bytes = texts; used = n; taken = m }) before).
      record {
        rows = λ (in_rows : n' ≤ length rows') (in_texts : m' ≤ length texts') (more : List ℕ).
            let bytes = take m' texts' ++ more in
            let front : map (shown_by source bytes) (take n rows) ≡ before =
            holds_on (λ (b : List ℕ). map (shown_by source b) (take n rows) ≡ before) grows
            (λ (h : m ≤ length texts). old.rows (put.room in_rows) h) in_texts more in
            ap (map (shown_by source bytes)) (put.added in_rows)
            ∙ (map-append (shown_by source bytes) (take n rows) (row ∷ [])
            ∙ (ap (λ (xs : List Shown). xs ++ (shown_by source bytes row ∷ [])) front
            ∙ ap (λ (s : Shown). before ++ (s ∷ [])) (is in_texts more)));
      };
}

-- one row more, in front of which only texts were added
pub adds_behind : (source : List ℕ) (row : YamlRow) (shown : Shown) {rows rows' : List YamlRow} {n k n' : ℕ}
    {texts texts' : List ℕ} {m j m' : ℕ}
    → Grows texts m texts' j
    → k ≡ n
    → IsRowOf source texts' j row shown
    → IsPut rows k rows' n' row
    → m' ≡ j
    → Adds source (record { rows = rows; bytes = texts; used = n; taken = m })
    (record { rows = rows'; bytes = texts'; used = n'; taken = m' }) (shown ∷ [])
adds_behind source row shown {rows} {rows'} {n} {k} {n'} {texts} {texts'} {m} {j} {m'} grows same is put bytes =
    subst (λ (i : ℕ). Adds source (record { rows = rows; bytes = texts; used = i; taken = m })
    (record { rows = rows'; bytes = texts'; used = n'; taken = m' }) (shown ∷ [])) same
    (subst (λ (i : ℕ). Adds source (record { rows = rows; bytes = texts; used = k; taken = m })
    (record { rows = rows'; bytes = texts'; used = n'; taken = i }) (shown ∷ [])) (sym bytes)
    (adds_row source row shown put grows is))

-- first these, then those
pub adds_on : (source : List ℕ) (a b c : Room) (xs ys : List Shown) → Adds source a b xs → Adds source b c ys
    → Adds source a c (xs ++ ys)
adds_on source a b c xs ys f g = record {
  rows = λ (h : c.used ≤ length c.rows). f.rows (g.rows h);
  bytes = λ (h : c.taken ≤ length c.bytes). f.bytes (g.bytes h);
  behind = λ (before : List Shown) (old : Shows source a before).
      subst (Shows source c) (append_assoc before xs ys) (g.behind (before ++ xs) (f.behind before old));
}

-- none
pub adds_none : (source : List ℕ) (a : Room) → Adds source a a []
adds_none source a = record {
  rows = λ (h : a.used ≤ length a.rows). h;
  bytes = λ (h : a.taken ≤ length a.bytes). h;
  behind = λ (before : List Shown) (old : Shows source a before).
      subst (Shows source a) (sym (append-nil before)) old;
}

-- first the begin of a document of these events, then more
pub adds_begun : (source : List ℕ) (at : ℕ) (events : List (DocEvent × Position)) {xs : List Shown} (a b c : Room)
    → Adds source a b (begins (document_reach at (length events)) ∷ [])
    → Adds source b c xs
    → Adds source a c (begins (document_reach at (length (marked_events_of events))) ∷ xs)
adds_begun source at events {xs} a b c f g =
    subst (λ (n : ℕ). Adds source a c (begins (document_reach at n) ∷ xs))
    (sym (length-map events (λ (e : DocEvent × Position). (doc_event_of e.0, e.1))))
    (adds_on source a b c (begins (document_reach at (length events)) ∷ []) xs f g)

-- each event is shown, with where its collection ends
pub each_length : (at : ℕ) (events : List (PlainDocEvent × Position)) (ends : List ℕ) → length ends ≡ length events
    → length (shown_each at events ends) ≡ length events
each_length at events ends same =
    length-map (zip events ends) (λ e. (shown_event at e.1 e.0.0, e.0.1))
    ∙ (length-zip events ends ∙ min-eq_left (omega arith))

-- as is the event in a place
each_at : (at : ℕ) (events : List (DocEvent × Position)) (ends : List ℕ) (i : ℕ) (e : DocEvent × Position) (end : ℕ)
    → i < length events
    → length ends ≡ length events
    → e ≡ get_or events i e
    → end ≡ get_or ends i end
    → get_or (shown_each at (marked_events_of events) ends) i (shown_event at end (doc_event_of e.0), e.1)
    ≡ (shown_event at end (doc_event_of e.0), e.1)
each_at at events ends i e end in_range same is end_is =
    let marked = marked_events_of events in
    let long : length marked ≡ length events = length-map events (λ e. (doc_event_of e.0, e.1)) in
    let plain : PlainDocEvent × Position = (doc_event_of e.0, e.1) in
    let here : get_or marked i plain ≡ plain =
    get_or-map (λ (e : DocEvent × Position). (doc_event_of e.0, e.1)) events i e
    ∙ ap (λ (e : DocEvent × Position). (doc_event_of e.0, e.1)) (sym is) in
    let both : get_or (zip marked ends) i (plain, end) ≡ (plain, end) =
    get_or-zip marked ends i (plain, end) (omega arith) (omega arith)
    ∙ (ap (λ x. (x, get_or ends i end)) here ∙ ap (λ n. (plain, n)) (sym end_is)) in
    get_or-map (λ (e : (PlainDocEvent × Position) × ℕ). (shown_event at e.1 e.0.0, e.0.1)) (zip marked ends) i
    (plain, end)
    ∙ ap (λ (e : (PlainDocEvent × Position) × ℕ). (shown_event at e.1 e.0.0, e.0.1)) both

-- one event more
pub adds_event : (source : List ℕ) (at : ℕ) (events : List (DocEvent × Position)) (ends : List ℕ) (i : ℕ)
    (e : DocEvent × Position) (end : ℕ) (a b c : Room)
    → i < length events
    → length ends ≡ length events
    → e ≡ get_or events i e
    → end ≡ get_or ends i end
    → Adds source a b (all_held (take i (shown_each at (marked_events_of events) ends)))
    → Adds source b c (holds (shown_event at end (doc_event_of e.0)) e.1 ∷ [])
    → Adds source a c (all_held (take (i + 1) (shown_each at (marked_events_of events) ends)))
adds_event source at events ends i e end a b c in_range same is end_is f g =
    let marked = marked_events_of events in
    let each = shown_each at marked ends in
    let one : ShownEvent × Position = (shown_event at end (doc_event_of e.0), e.1) in
    let marks : length marked ≡ length events = length-map events (λ e. (doc_event_of e.0, e.1)) in
    let long : length each ≡ length marked = each_length at marked ends (same ∙ sym marks) in
    let step : take (i + 1) each ≡ take i each ++ one ∷ [] =
    (take_at_read each i one (omega arith)).1
    ∙ ap (λ x. take i each ++ x ∷ []) (each_at at events ends i e end in_range same is end_is) in
    let shown : all_held (take i each) ++ (holds one.0 one.1 ∷ []) ≡ all_held (take (i + 1) each) =
    rw step (simp map-append) in
    subst (Adds source a c) shown (adds_on source a b c _ _ f g)

-- no event is left
pub adds_all_events : (source : List ℕ) (at : ℕ) (events : List (DocEvent × Position)) (ends : List ℕ) (i : ℕ)
    (a b : Room)
    → length events ≤ i
    → length ends ≡ length events
    → Adds source a b (all_held (take i (shown_each at (marked_events_of events) ends)))
    → Adds source a b (shown_events at (marked_events_of events) ends)
adds_all_events source at events ends i a b past same adds =
    let marked = marked_events_of events in
    let each = shown_each at marked ends in
    let marks : length marked ≡ length events = length-map events (λ e. (doc_event_of e.0, e.1)) in
    let long : length each ≡ length marked = each_length at marked ends (same ∙ sym marks) in
    let all : take i each ≡ each = take_all i each (omega arith) in
    rw all at adds
