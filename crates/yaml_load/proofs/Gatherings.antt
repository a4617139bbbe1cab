-- Ranges of a list of events keep their documents when events are put behind.
use Rattle.std.specs.Prelude.{◌≡◌, ◌+◌, ◌-◌, ◌≤◌, ◌∷◌, ◌++◌}
use Rattle.yaml_load.proofs.Words.{Events, ℕ, suc, List, [], map, length, take, drop, take_all, slice_range, refl, sym}
use Rattle.yaml_load.proofs.Words.{◌∙◌, ap, arith, length-append, length-drop, length-map, take-append-le}
use Rattle.yaml_load.proofs.Words.{drop-append-le, All-tail, drop-append_seam, Position, doc_event_of, marked_events_of}
use Rattle.yaml_load.proofs.Words.{ends_from, ends_of, AreCuts, HasEnds, documents_in, plain_doc_events, PlainDocEvent}
use Rattle.yaml_load.proofs.Words.{DocEvent, Cut}

-- a range of the front
range_of_front : {X : Type 0} (xs ys : List X) (from to : ℕ) → from ≤ to → to ≤ length xs
    → slice_range (xs ++ ys) from to ≡ slice_range xs from to
range_of_front xs ys from to order within =
    let long : to - from ≤ length (drop from xs) = simp length-drop (omega arith) in
    ap (take (to - from)) (drop-append-le from xs ys (omega arith)) ∙ take-append-le (to - from) (drop from xs) ys long

-- the range of what is behind
pub range_behind : {X : Type 0} (xs ys : List X) (from to : ℕ) → from ≡ length xs → to ≡ length (xs ++ ys)
    → slice_range (xs ++ ys) from to ≡ ys
range_behind xs ys from to begin end =
    let long : length ys ≤ to - from = omega (arith, length-append xs ys) in
    ap (λ k. take (to - from) (drop k (xs ++ ys))) begin
    ∙ ap (take (to - from)) (drop-append_seam xs ys) ∙ take_all (to - from) ys long

-- as many numbers as events
pub length-ends_from : (place : ℕ) (events : List PlainDocEvent) → length (ends_from place events) ≡ length events
length-ends_from place [] = refl
length-ends_from place (e ∷ events) = ap suc (length-ends_from (place + 1) events)

-- the plain events, with and without their marks
pub plain_doc_events-marked : (events : Events)
    → map (λ (e : PlainDocEvent × Position). e.0) (marked_events_of events) ≡ plain_doc_events events
plain_doc_events-marked [] = refl
plain_doc_events-marked (e ∷ events) = ap (λ es. doc_event_of e.0 ∷ es) (plain_doc_events-marked events)

pub length-ends_of : (numbers : List ℕ) (more : Events) → numbers ≡ ends_of (plain_doc_events more)
    → length numbers ≡ length more
length-ends_of numbers more are =
    ap length are ∙ length-ends_from 0 (plain_doc_events more)
    ∙ length-map more (λ (e : DocEvent × Position). doc_event_of e.0)

-- a range in front stays right
pub has_ends_more : (events more : Events) (ends numbers : List ℕ) (from to : ℕ) → HasEnds events ends from to
    → HasEnds (events ++ more) (ends ++ numbers) from to
has_ends_more events more ends numbers from to h = (
  h.0,
  omega (arith, h.1, length-append events more),
  omega (arith, h.2, length-append ends numbers),
  range_of_front ends numbers from to h.0 h.2 ∙ h.3
      ∙ ap (λ es. ends_of (plain_doc_events es)) (sym (range_of_front events more from to h.0 h.1)),
)

-- the range behind is right
pub has_ends_behind : (events more : Events) (ends numbers : List ℕ) (from to : ℕ) → length ends ≡ length events
    → numbers ≡ ends_of (plain_doc_events more) → from ≡ length events → to ≡ length (events ++ more)
    → HasEnds (events ++ more) (ends ++ numbers) from to
has_ends_behind events more ends numbers from to long are begin end =
    let many = length-ends_of numbers more are in
    let whole : to ≡ length (ends ++ numbers) =
    omega (arith, length-append events more, length-append ends numbers) in (
      omega (arith, length-append events more),
      omega arith,
      omega arith,
      range_behind ends numbers from to (begin ∙ sym long) whole ∙ are
          ∙ ap (λ es. ends_of (plain_doc_events es)) (sym (range_behind events more from to begin end)),
    )

-- the documents in front stay
pub documents_in_front : (events more : Events) (ends : List ℕ) (cuts : List Cut) → AreCuts events ends cuts
    → documents_in (events ++ more) cuts ≡ documents_in events cuts
documents_in_front events more ends [] h = refl
documents_in_front events more ends (cut ∷ cuts) h =
    let first = h 0 cut (omega arith) in
    let others = All-tail (λ (c : Cut). HasEnds events ends c.from c.to) cut cuts h in
    rw (range_of_front events more cut.from cut.to first.0 first.1, documents_in_front events more ends cuts others)
