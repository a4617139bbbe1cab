-- Where the machine stops, the list of events goes wrong.
use Rattle.std.specs.Prelude.{◌↔◌, ◌≡◌, ◌+◌, ◌∷◌, ◌++◌}
use Rattle.std.proofs.lemmas.List.{length-append}
use Rattle.std.proofs.lemmas.Simd.{map-map}
use Rattle.yaml_load.proofs.Words.{ℕ, List, [], length, take, drop, Some, None, Bool, true, false, refl, sym, ◌∙◌, ap}
use Rattle.yaml_load.proofs.Words.{inl, inr, arith, append_assoc, append-nil, subst, take-append-add, take-append_seam}
use Rattle.yaml_load.proofs.Words.{take-length, length-map, map-append, take-append-drop, Position, PlainEvent}
use Rattle.yaml_load.proofs.Words.{event_of, Event, IsStream, IsBeginning, IsWellFormed, Open, Phase, State}
use Rattle.yaml_load.proofs.Words.{before_stream, after_stream, next_state, run, Input, events_in, plain_events}
use Rattle.yaml_load.proofs.Words.{plain_marked, is_done, phase_state, IsWrongAt, IsWrongNext, After, whole_run}
use Rattle.yaml_load.proofs.Words.{goes_on_run, run_append}

-- the plain events of events with marks
pub events_of_marked : (events : List (Event × Position)) → events_in (plain_marked events) ≡ plain_events events
events_of_marked events =
    map-map (λ (e : PlainEvent × Position). e.0) (λ (e : Event × Position). (event_of e.0, e.1)) events

not_some : (es : List PlainEvent) → run (Some before_stream) es ≡ None → IsBeginning es → ⊥
not_some es e g = let found = (goes_on_run es).0 g in let is = found.1 in cc

-- the front of a beginning of a stream is one too
pub beginning_taken : (events : List PlainEvent) (k : ℕ) → IsBeginning events → IsBeginning (take k events)
beginning_taken events k h = (
  drop k events ++ h.0,
  (
    h.1.0,
    sym (append_assoc (take k events) (drop k events) h.0) ∙ ap (λ es. es ++ h.0) (take-append-drop k events)
        ∙ h.1.1,
  ),
)

-- a stream is a beginning of one
well_formed_begins : (faulted : Bool) (events : List PlainEvent) → IsWellFormed faulted events → IsBeginning events
well_formed_begins false events h = ([], (h.0, append-nil events ∙ h.1))
well_formed_begins true events h = h.0

-- where a list goes wrong, it is not well-formed
pub wrong_not_well_formed : (faulted : Bool) (events : List PlainEvent) (place : ℕ) → IsWrongAt faulted events place
    → IsWellFormed faulted events → ⊥
wrong_not_well_formed faulted events place (begins, inl early) h =
    early.1 (beginning_taken events (place + 1) (well_formed_begins faulted events h))
wrong_not_well_formed faulted events place (begins, inr late) h = late.1 h

-- the phase behind the end of the stream is that of the last state
at_end : (p : Phase) (opened : List Open) → (is_done p ≡ true) ↔ (phase_state p opened ≡ after_stream)
at_end After opened = (λ h. refl, λ e. refl)
at_end _ opened = (λ h. absurd cc, λ e. absurd cc)

-- at the end of the events the phase says whether they are right
not_right : (faulted done : Bool) (events : List PlainEvent) → (done ≡ true) ↔ IsStream events → done ≡ faulted
    → IsWellFormed faulted events → ⊥
not_right true done events ends h w = w.1 (ends.0 h)
not_right false done events ends h w = let d = ends.1 w in cc

right : (faulted done : Bool) (events : List PlainEvent) → IsBeginning events → (done ≡ true) ↔ IsStream events
    → (done ≡ faulted → ⊥) → IsWellFormed faulted events
right true false events begins ends other = (begins, λ w. let d = ends.1 w in cc)
right false true events begins ends other = ends.0 refl
right _ _ events begins ends other = absurd (other refl)

module _ (faulted : Bool) (p : Phase) (opened : List Open) (events : List PlainEvent)
    (ran : run (Some before_stream) events ≡ Some (phase_state p opened)) where
  begins : IsBeginning events
  begins = (goes_on_run events).1 (phase_state p opened, ran)

  ends : (is_done p ≡ true) ↔ IsStream events
  ends = (
    λ h. (whole_run events).1 (ran ∙ ap Some ((at_end p opened).0 h)),
    λ w. (at_end p opened).1 (let whole = (whole_run events).0 w in cc),
  )

  pub wrong_end : is_done p ≡ faulted → IsWrongAt faulted events (length events)
  wrong_end h =
      (subst IsBeginning (sym (take-length events)) begins, inr (refl, not_right faulted (is_done p) events ends h))

  pub right_end : (is_done p ≡ faulted → ⊥) → IsWellFormed faulted events
  right_end h = right faulted (is_done p) events begins ends h

-- the event behind a beginning of a stream is wrong where the machine stops there
pub wrong_next : (events : List PlainEvent) (e : PlainEvent) (s : State)
    → run (Some before_stream) events ≡ Some s → next_state s e ≡ None → IsWrongNext events e
wrong_next events e s ran stop = (
  (goes_on_run events).1 (s, ran),
  not_some (events ++ e ∷ [])
      (run_append events (e ∷ []) (Some before_stream) ∙ ap (λ o. run o (e ∷ [])) ran ∙ stop),
)

-- a list goes wrong where its first wrong event stands
pub wrong_behind : (faulted : Bool) (front rest : List PlainEvent) (e : PlainEvent) → IsWrongNext front e
    → IsWrongAt faulted (front ++ e ∷ rest) (length front)
wrong_behind faulted front rest e h = (
  subst IsBeginning (sym (take-append_seam front (e ∷ rest))) h.0,
  inl (
    omega (arith, length-append front (e ∷ rest)),
    λ begins. h.1 (subst IsBeginning (take-append-add front (e ∷ rest) 1) begins),
  ),
)

-- the same among events of which some were taken and some are left
pub wrong_amid : (faulted : Bool) (events : List (Event × Position)) (taken : Input)
    (left rest : List (Event × Position)) (x : Event × Position)
    → plain_marked events ≡ taken ++ plain_marked left → left ≡ x ∷ rest
    → IsWrongNext (events_in taken) (event_of x.0) → IsWrongAt faulted (plain_events events) (length taken)
wrong_amid faulted events taken left rest x all is wrong =
    let later = events_in (plain_marked rest) in
    let whole : plain_events events ≡ events_in taken ++ event_of x.0 ∷ later =
    sym (events_of_marked events) ∙ ap events_in (all ∙ ap (λ l. taken ++ plain_marked l) is)
    ∙ map-append (λ (e : PlainEvent × Position). e.0) taken (plain_marked (x ∷ rest)) in
    subst (λ es. IsWrongAt faulted es (length taken)) (sym whole)
    (subst (IsWrongAt faulted (events_in taken ++ event_of x.0 ∷ later))
    (length-map taken (λ (e : PlainEvent × Position). e.0))
    (wrong_behind faulted (events_in taken) later (event_of x.0) wrong))
