-- What cuts documents off, and what they hold up to there.
use Rattle.std.specs.Prelude.{◌≡◌, ◌+◌, ◌∷◌, ◌++◌}
use Rattle.yaml_load.proofs.Words.{ℕ, zero, suc, List, [], map, length, refl, sym, ◌∙◌, ap, subst, cond, arith, Bool}
use Rattle.yaml_load.proofs.Words.{true, false, Option, Some, None, All, inl, inr, slice_get, cases_Bool, Position}
use Rattle.yaml_load.proofs.Words.{PlainEvent, PlainFault, Input, Find, find_in, known_events, unknown_mark, body}
use Rattle.yaml_load.proofs.Words.{is_ended, is_document_start, anchors_in, ending_of, document_from, documents_of}
use Rattle.yaml_load.proofs.Words.{after_starts, is_open_after, is_document_end, failed_document, further_document}
use Rattle.yaml_load.proofs.Words.{becomes, then_events, or_mark, PlainDocEvent, PlainDocument, IsBeforeFault}
use Rattle.yaml_load.proofs.Words.{IsAtFault, EndAtFault, HoldsFront, HoldFronts, UnknownAnchor}
use Rattle.yaml_load.proofs.StreamEndings.{all_kinds}

-- the first unknown mark behind a start
abbrev unknown_of : Input → Option Position
unknown_of start = unknown_mark (find_in (anchors_in 0 (body start))) 0 (body start)

-- a document that ends was not cut off by the parser's fault
before_ended : (unknown : Option Position) (fault : Option PlainFault) → IsBeforeFault (ending_of unknown true fault)
before_ended (Some mark) fault = tt
before_ended None fault = tt

-- one that does not end was
at_unended : (unknown : Option Position) (fault : PlainFault) → IsAtFault fault (ending_of unknown false (Some fault))
at_unended (Some mark) fault = tt
at_unended None fault = refl

before_document : (start : Input) (fault : Option PlainFault) → is_ended start ≡ true
    → IsBeforeFault (document_from fault start).ending
before_document start fault ended = rw ended (before_ended (unknown_of start) fault)

pub at_document : (start : Input) (fault : PlainFault) → is_ended start ≡ false
    → IsAtFault fault (document_from (Some fault) start).ending
at_document start fault unended = rw unended (at_unended (unknown_of start) fault)

in_front : (fault : PlainFault) (d : PlainDocument) (ds : List PlainDocument) → IsBeforeFault d.ending
    → EndAtFault fault ds
    → EndAtFault fault (d ∷ ds)
in_front fault d [] h more = absurd more
in_front fault d (e ∷ ds) h more = (h, more)

-- the documents of an input that begins within a document or between two
abbrev from_here : PlainFault → Bool → Input → List PlainDocument
from_here fault opened input =
    map (document_from (Some fault)) (after_starts opened input)
    ++ cond (is_open_after opened input) [] (failed_document fault ∷ [])

-- behind a document that ends the fault is still to come, and behind another one nothing is
abbrev IsBehind : PlainFault → Bool → List PlainDocument → Type 0
IsBehind fault true documents = EndAtFault fault documents
IsBehind fault false documents = documents ≡ []

with_document : (fault : PlainFault) (input : Input) (ended : Bool) → is_ended input ≡ ended
    → IsBehind fault ended (from_here fault true input)
    → EndAtFault fault (document_from (Some fault) input ∷ from_here fault true input)
with_document fault input true is more =
    in_front fault (document_from (Some fault) input) (from_here fault true input)
    (before_document input (Some fault) is) more
with_document fault input false is none =
    subst (λ ds. EndAtFault fault (document_from (Some fault) input ∷ ds)) (sym none) (at_document input fault is)

mutual
  -- between documents
  between : (fault : PlainFault) (input : Input) → EndAtFault fault (from_here fault false input)
  between fault [] = refl
  between fault (e ∷ input) = elim (cases_Bool (is_document_start e.0)) [
    | inl yes_ ↦ rw yes_ (with_document fault input (is_ended input) refl (behind_one fault input))
    | inr no_ ↦ rw no_ (between fault input)
  ]

  -- within a document
  behind_one : (fault : PlainFault) (input : Input) → IsBehind fault (is_ended input) (from_here fault true input)
  behind_one fault [] = refl
  behind_one fault (e ∷ input) = elim (cases_Bool (is_document_end e.0)) [
    | inl yes_ ↦ rw yes_ (between fault input)
    | inr no_ ↦ rw no_ (behind_one fault input)
  ]

-- the parser's fault comes in the last document
pub fault_last : (input : Input) (fault : PlainFault) → EndAtFault fault (documents_of input (Some fault))
fault_last input fault = between fault input

-- a document that no parser's fault cut off
before_none : (unknown : Option Position) (ended : Bool) → IsBeforeFault (ending_of unknown ended None)
before_none (Some mark) ended = tt
before_none None true = tt
before_none None false = tt

-- without the parser's fault no document has it
pub no_fault : (input : Input) → All (λ d. IsBeforeFault d.ending) (documents_of input None)
no_fault input =
    all_kinds (λ (d : PlainDocument). IsBeforeFault d.ending) input None
    (λ s. before_none (unknown_of s) (is_ended s)) (λ mark. tt) (λ f is. absurd cc)

-- an event at a place, and what it becomes there
abbrev Holds : Find → Input → ℕ → ℕ → Position → Option PlainDocEvent → Type 0
Holds find input place number mark made = (source : PlainEvent) × (slice_get input place ≡ Some (source, mark)) ×
    (becomes find number source ≡ made)

known_here : (find : Find) (i : ℕ) (e : PlainEvent × Position) (input : Input) (made : Option PlainDocEvent)
    → becomes find i e.0 ≡ made
    → ((p number : ℕ) (d : PlainDocEvent) (mark : Position) → number ≡ (i + 1) + p
    → slice_get (known_events find (i + 1) input) p ≡ Some (d, mark) → Holds find input p number mark (Some d))
    → (p number : ℕ) (d : PlainDocEvent) (mark : Position) → number ≡ i + p
    → slice_get (then_events made e.1 (known_events find (i + 1) input)) p ≡ Some (d, mark)
    → Holds find (e ∷ input) p number mark (Some d)
known_here find i e input None is more p number d mark n here = absurd (cc)
known_here find i e input (Some f) is more zero number d mark n here =
    let same : number ≡ i = omega arith in
    let both : ◌≡◌ {A = PlainDocEvent × Position} (f, e.1) (d, mark) = cc in
    let marked : e.1 ≡ mark = ap (λ (x : PlainDocEvent × Position). x.1) both in
    let made : f ≡ d = ap (λ (x : PlainDocEvent × Position). x.0) both in
    (e.0, ap (λ m. Some (e.0, m)) marked, ap (λ k. becomes find k e.0) same ∙ is ∙ ap Some made)
known_here find i e input (Some f) is more (suc p) number d mark n here = more p number d mark (omega arith) here

-- each known event is what the event at its place becomes
known_at : (find : Find) (i : ℕ) (input : Input) (p number : ℕ) (d : PlainDocEvent) (mark : Position) → number ≡ i + p
    → slice_get (known_events find i input) p ≡ Some (d, mark) → Holds find input p number mark (Some d)
known_at find i [] p number d mark n here = absurd (cc)
known_at find i (e ∷ input) p number d mark n here =
    known_here find i e input (becomes find i e.0) refl (known_at find (i + 1) input) p number d mark n here

unknown_here : (find : Find) (i : ℕ) (e : PlainEvent × Position) (input : Input) (made : Option PlainDocEvent)
    → becomes find i e.0 ≡ made
    → ((number : ℕ) (mark : Position) → number ≡ (i + 1) + length (known_events find (i + 1) input)
    → unknown_mark find (i + 1) input ≡ Some mark
    → Holds find input (length (known_events find (i + 1) input)) number mark None)
    → (number : ℕ) (mark : Position) → number ≡ i + length (then_events made e.1 (known_events find (i + 1) input))
    → or_mark made e.1 (unknown_mark find (i + 1) input) ≡ Some mark
    → Holds find (e ∷ input) (length (then_events made e.1 (known_events find (i + 1) input))) number mark None
unknown_here find i e input None is more number mark n here =
    let same : number ≡ i = omega arith in
    let marked : e.1 ≡ mark = cc in
    (e.0, ap (λ m. Some (e.0, m)) marked, ap (λ k. becomes find k e.0) same ∙ is)
unknown_here find i e input (Some f) is more number mark n here = more number mark (omega arith) here

-- the event behind the known ones becomes none, where there is an unknown mark
unknown_at : (find : Find) (i : ℕ) (input : Input) (number : ℕ) (mark : Position)
    → number ≡ i + length (known_events find i input)
    → unknown_mark find i input ≡ Some mark → Holds find input (length (known_events find i input)) number mark None
unknown_at find i [] number mark n here = absurd (cc)
unknown_at find i (e ∷ input) number mark n here =
    unknown_here find i e input (becomes find i e.0) refl (unknown_at find (i + 1) input) number mark n here

-- what stands in front of the end of a document stands behind its start
in_more : (e : PlainEvent × Position) (input : Input)
    → ((place : ℕ) (x : PlainEvent × Position) → slice_get (body input) place ≡ Some x → slice_get input place ≡ Some x)
    → (place : ℕ) (x : PlainEvent × Position) → slice_get (e ∷ body input) place ≡ Some x
    → slice_get (e ∷ input) place ≡ Some x
in_more e input more zero x here = here
in_more e input more (suc place) x here = more place x here

in_body : (input : Input) (place : ℕ) (x : PlainEvent × Position) → slice_get (body input) place ≡ Some x
    → slice_get input place ≡ Some x
in_body [] place x here = here
in_body (e ∷ input) place x here = grind (arith, in_more e input (in_body input) place x)

-- an unknown anchor is the first unknown mark
unknown_is : (unknown : Option Position) (ended : Bool) (fault : Option PlainFault) (mark : Position)
    → ending_of unknown ended fault ≡ Some (UnknownAnchor mark) → unknown ≡ Some mark
unknown_is (Some m) ended fault mark h = cc
unknown_is None false (Some f) mark h = absurd cc
unknown_is _ _ _ mark h = absurd cc

front_of : (start : Input) (fault : Option PlainFault)
    → HoldsFront (find_in (anchors_in 0 (body start))) start (document_from fault start)
front_of start fault =
    let find : Find = find_in (anchors_in 0 (body start)) in
    record {
      events = λ p d mark here.
          let h = known_at find 0 (body start) p p d mark (omega arith) here in
          (h.0, in_body start p (h.0, mark) h.1, h.2);
      anchor = λ mark cut.
          let found = unknown_is (unknown_of start) (is_ended start) fault mark cut in
          let h = unknown_at find 0 (body start) _ mark (omega arith) found in
          (h.0, in_body start _ (h.0, mark) h.1, h.2);
    }

fronts_of : (starts : List Input) (fault : Option PlainFault) (more : List PlainDocument)
    → HoldFronts starts (map (document_from fault) starts ++ more)
fronts_of [] fault more = tt
fronts_of (s ∷ starts) fault more = (front_of s fault, fronts_of starts fault more)

-- each document behind a start holds the front of what follows it
pub all_fronts : (input : Input) (fault : Option PlainFault)
    → HoldFronts (after_starts false input) (documents_of input fault)
all_fronts input fault = fronts_of (after_starts false input) fault (further_document input fault)
