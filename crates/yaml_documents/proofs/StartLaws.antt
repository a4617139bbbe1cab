-- The documents that begin in events which are put behind others.
use Rattle.std.proofs.Common.{◌≡◌, List, [], ◌∷◌, ◌++◌, map, refl, sym, ◌∙◌, ap, cond, Bool, true, false, Option, Some}
use Rattle.std.proofs.Common.{None, inl, inr, ◌||◌}
use Rattle.std.specs.Prelude.{not}
use Rattle.std.proofs.lemmas.Bool.{cases_Bool}
use Rattle.std.proofs.lemmas.List.{map-append}
use Rattle.yaml_load.proofs.DocumentLaws.{no_starts}
use Rattle.yaml_load.proofs.Words.{Cause, Input, PlainDocument, PlainEvent, PlainFault, Position, after_starts}
use Rattle.yaml_load.proofs.Words.{anchors_in}
use Rattle.yaml_load.proofs.Words.{body, document_from, document_of, ending_of, find_in, is_document_end}
use Rattle.yaml_load.proofs.Words.{is_document_start, is_ended, is_open_after, known_events, unknown_mark}

-- whether a document is open behind both
pub open_append : (o : Bool) (xs ys : Input) → is_open_after o (xs ++ ys) ≡ is_open_after (is_open_after o xs) ys
open_append true [] ys = refl
open_append false [] ys = refl
open_append true (e ∷ xs) ys = open_append (not (is_document_end e.0)) xs ys
open_append false (e ∷ xs) ys = open_append (is_document_start e.0) xs ys

-- what follows each start in both
pub starts_append : (o : Bool) (xs ys : Input)
    → after_starts o (xs ++ ys) ≡ map (λ s. s ++ ys) (after_starts o xs) ++ after_starts (is_open_after o xs) ys
starts_append true [] ys = refl
starts_append false [] ys = refl
starts_append true (e ∷ xs) ys = starts_append (not (is_document_end e.0)) xs ys
starts_append false (e ∷ xs) ys =
    elim (cases_Bool (is_document_start e.0)) [
      | inl yes_ ↦ simp yes_ (ap (λ (l : List Input). (xs ++ ys) ∷ l) (starts_append true xs ys))
      | inr no_ ↦ simp no_ (starts_append false xs ys)
    ]

-- behind the end of a document nothing changes it
body_append : (s ys : Input) → is_ended s ≡ true → body (s ++ ys) ≡ body s
body_append [] ys h = absurd (cc)
body_append (e ∷ s) ys h =
    elim (cases_Bool (is_document_end e.0)) [
      | inl yes_ ↦ simp yes_
      | inr no_ ↦ simp no_ (ap (λ (l : Input). e ∷ l) (body_append s ys (ap (λ b. b || is_ended s) (sym no_) ∙ h)))
    ]

ended_append : (s ys : Input) → is_ended s ≡ true → is_ended (s ++ ys) ≡ true
ended_append [] ys h = absurd (cc)
ended_append (e ∷ s) ys h =
    elim (cases_Bool (is_document_end e.0)) [
      | inl yes_ ↦ simp yes_
      | inr no_ ↦ simp no_ (ended_append s ys (ap (λ b. b || is_ended s) (sym no_) ∙ h))
    ]

ending_same : (unknown : Option Position) (fault : Option PlainFault)
    → ending_of unknown true fault ≡ ending_of unknown true None
ending_same (Some m) fault = refl
ending_same None fault = refl

-- the document of events with another end
abbrev ending_so : Input → Option Cause → PlainDocument
ending_so events ending = record { events = known_events (find_in (anchors_in 0 events)) 0 events; ending = ending }

pub document_append : (fault : Option PlainFault) (s ys : Input) → is_ended s ≡ true
    → document_from fault (s ++ ys) ≡ document_from None s
document_append fault s ys ended =
    ap (λ b. document_of (anchors_in 0 b) b (is_ended (s ++ ys)) fault) (body_append s ys ended)
    ∙ ap (λ e. document_of (anchors_in 0 (body s)) (body s) e fault) (ended_append s ys ended)
    ∙ ap (ending_so (body s)) (ending_same (unknown_mark (find_in (anchors_in 0 (body s))) 0 (body s)) fault)
    ∙ ap (λ e. document_of (anchors_in 0 (body s)) (body s) e None) (sym ended)

-- a document that was open and is closed ends
ended_where_closed : (xs : Input) → is_open_after true xs ≡ false → is_ended xs ≡ true
ended_where_closed [] h = absurd (cc)
ended_where_closed (e ∷ xs) h =
    elim (cases_Bool (is_document_end e.0)) [
      | inl yes_ ↦ simp yes_
      | inr no_ ↦ simp no_ (ended_where_closed xs (ap (λ b. is_open_after (not b) xs) (sym no_) ∙ h))
    ]

closed_starts : (fault : Option PlainFault) (ys : Input) (o : Bool) (xs : Input) → is_open_after o xs ≡ false
    → map (document_from fault) (map (λ s. s ++ ys) (after_starts o xs)) ≡ map (document_from None) (after_starts o xs)
closed_starts fault ys true [] h = refl
closed_starts fault ys false [] h = refl
closed_starts fault ys true (e ∷ xs) h = closed_starts fault ys (not (is_document_end e.0)) xs h
closed_starts fault ys false (e ∷ xs) h =
    elim (cases_Bool (is_document_start e.0)) [
      | inl yes_ ↦
          let closed : is_open_after true xs ≡ false = ap (λ b. is_open_after b xs) (sym yes_) ∙ h in
          simp yes_ (ap (λ (d : PlainDocument). d
          ∷ map (document_from fault) (map (λ s. s ++ ys) (after_starts true xs)))
          (document_append fault xs ys (ended_where_closed xs closed))
          ∙ ap (λ (ds : List PlainDocument). document_from None xs ∷ ds) (closed_starts fault ys true xs closed))
      | inr no_ ↦ simp no_ (closed_starts fault ys false xs (ap (λ b. is_open_after b xs) (sym no_) ∙ h))
    ]

-- where no document is open behind the first events, their documents stay, and those of the others stand behind them
pub documents_append : (fault : Option PlainFault) (xs ys : Input) → is_open_after false xs ≡ false
    → map (document_from fault) (after_starts false (xs ++ ys))
    ≡ map (document_from None) (after_starts false xs) ++ map (document_from fault) (after_starts false ys)
documents_append fault xs ys closed =
    ap (map (document_from fault)) (starts_append false xs ys
    ∙ ap (λ o. map (λ s. s ++ ys) (after_starts false xs) ++ after_starts o ys) closed)
    ∙ map-append (document_from fault) (map (λ s. s ++ ys) (after_starts false xs)) (after_starts false ys)
    ∙ ap (λ (ds : List PlainDocument). ds ++ map (document_from fault) (after_starts false ys))
    (closed_starts fault ys false xs closed)

-- events in which no document ends
pub unended_tail : (e : PlainEvent × Position) (ys : Input) → is_ended (e ∷ ys) ≡ false → is_ended ys ≡ false
unended_tail e ys h =
    elim (cases_Bool (is_document_end e.0)) [
      | inl yes_ ↦ absurd (let t = ap (λ b. b || is_ended ys) yes_ in cc)
      | inr no_ ↦ ap (λ b. b || is_ended ys) (sym no_) ∙ h
    ]

open_unended : (ys : Input) → is_ended ys ≡ false → is_open_after true ys ≡ true
open_unended [] h = refl
open_unended (e ∷ ys) h =
    elim (cases_Bool (is_document_end e.0)) [
      | inl yes_ ↦ absurd (let t = ap (λ b. b || is_ended ys) yes_ in cc)
      | inr no_ ↦ simp no_ (open_unended ys (ap (λ b. b || is_ended ys) (sym no_) ∙ h))
    ]

-- of such events one document begins in those behind which one is open, and in others none
pub one_start : (ys : Input) → is_ended ys ≡ false → is_open_after false ys ≡ true
    → (s : Input) × (after_starts false ys ≡ s ∷ [])
one_start [] h o = absurd (cc)
one_start (e ∷ ys) h o =
    let u = unended_tail e ys h in
    elim (cases_Bool (is_document_start e.0)) [
      | inl yes_ ↦ (
        ys,
        ap (λ b. cond b (ys ∷ after_starts true ys) (after_starts false ys)) yes_ ∙ ap (λ (l : List Input). ys ∷ l)
            (no_starts ys u),
      )
      | inr no_ ↦
          let more = one_start ys u (ap (λ b. is_open_after b ys) (sym no_) ∙ o) in
          (more.0, ap (λ b. cond b (ys ∷ after_starts true ys) (after_starts false ys)) no_ ∙ more.1)
    ]

pub no_start : (ys : Input) → is_ended ys ≡ false → is_open_after false ys ≡ false → after_starts false ys ≡ []
no_start [] h o = refl
no_start (e ∷ ys) h o =
    let u = unended_tail e ys h in
    elim (cases_Bool (is_document_start e.0)) [
      | inl yes_ ↦ absurd (let closed = ap (λ b. is_open_after b ys) (sym yes_) ∙ o in let there = open_unended ys u in
          cc)
      | inr no_ ↦
          ap (λ b. cond b (ys ∷ after_starts true ys) (after_starts false ys)) no_
          ∙ no_start ys u (ap (λ b. is_open_after b ys) (sym no_) ∙ o)
    ]

-- the start of a document that ends with the last event
pub ended_start : (inner : Input) (e : PlainEvent × Position) → is_ended inner ≡ false
    → is_open_after false inner ≡ true
    → is_document_end e.0 ≡ true → (s : Input) × (after_starts false (inner ++ e ∷ []) ≡ s ∷ [])
ended_start inner e h o ends =
    let one = one_start inner h o in (
      one.0 ++ e ∷ [],
      starts_append false inner (e ∷ [])
          ∙ ap (λ (l : List Input). map (λ s. s ++ e ∷ []) l ++ after_starts (is_open_after false inner) (e ∷ [])) one.1
          ∙ ap (λ b. (one.0 ++ e ∷ []) ∷ after_starts b (e ∷ [])) o
          ∙ ap (λ b. (one.0 ++ e ∷ []) ∷ after_starts (not b) []) ends,
    )
