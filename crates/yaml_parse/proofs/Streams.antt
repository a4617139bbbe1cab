-- An event more, and what the events are at the end.
use Rattle.std.proofs.Common.{◌≡◌, List, [], ◌∷◌, ◌++◌, Option, Some, refl, sym, ◌∙◌, ap, true, false, map}
use Rattle.std.proofs.Common.{ℕ, length, reverse, subst}
use Rattle.std.proofs.Common.{◌-◌, ◌<◌, ◌≤◌, All, IfSome, IsSomeAnd, arith}
use Rattle.std.proofs.lemmas.List.Elements.{All-get_or, All-push, All-weaker}
use Rattle.std.proofs.lemmas.List.Sorted.{IsNonDecreasingBy-push}
use Rattle.std.proofs.lemmas.List.{map-append, nil_from_length, reverse-append}
use Rattle.yaml_base.specs.Position.{Position}
use Rattle.yaml_base.specs.PlainEvent.{PlainEvent, PlainScalar, event_of, scalar, alias, sequence_start, sequence_end}
use Rattle.yaml_base.specs.PlainEvent.{mapping_start, mapping_end}
use Rattle.yaml_base.specs.Stream.{IsStream, IsWellFormed}
use Rattle.yaml_base.specs.MarkedEvents.{plain_events}
use Rattle.yaml_base.specs.declared.event.Event.{Event}
use Rattle.yaml_base.specs.declared.open.Open.{Open}
use Rattle.yaml_base.specs.declared.open.Open.TheVariants.{Sequence, Key, Value}
use Rattle.yaml_parse.specs.declared.frame.Frame.{Frame}
use Rattle.yaml_parse.specs.declared.frame.Phase.{Phase}
use Rattle.yaml_parse.specs.declared.frame.Phase.TheVariants as phase
use Rattle.yaml_base.specs.StreamMachine.{State, before_stream, next_state, run, within}
use Rattle.yaml_parse.specs.Frames.{state_of, is_done, open_of, open_after_node, opens, ends_sequence, ends_mapping}
use Rattle.yaml_parse.specs.Marks.{MarksAscend}
use Rattle.yaml_parse.specs.Places.{AreInPlace, IsInPlace}
use Rattle.yaml_parse.specs.PlainText.{SaySources, SaysSource, scalar_in}
use Rattle.yaml_parse.specs.Shown.{AreShown, IsShown, StandsAt}
use Rattle.yaml_base.proofs.StreamMachineLaws.{run_append, whole_run, goes_on_run}

-- the state after one event more
pub goes : (events : List (Event × Position)) (x : Event × Position) (old new : State)
    → run (Some before_stream) (plain_events events) ≡ Some old → next_state old (event_of x.0) ≡ Some new
    → run (Some before_stream) (plain_events (events ++ x ∷ [])) ≡ Some new
goes events x old new ran next =
    ap (run (Some before_stream)) (map-append (λ (e : Event × Position). event_of e.0) events (x ∷ []))
    ∙ run_append (plain_events events) (event_of x.0 ∷ []) (Some before_stream)
    ∙ ap (λ o. run o (event_of x.0 ∷ [])) ran ∙ next

pub whole_of : (at : Phase) (outer : List (Frame × Position)) (events : List PlainEvent)
    → run (Some before_stream) events ≡ Some (state_of at outer) → is_done at ≡ true → IsStream events
whole_of phase.After outer events ran done = (whole_run events).1 ran
whole_of _ outer events ran done = absurd (cc)

pub cut_of : (at : Phase) (outer : List (Frame × Position)) (events : List PlainEvent)
    → run (Some before_stream) events ≡ Some (state_of at outer) → is_done at ≡ false → IsWellFormed true events
cut_of phase.After outer events ran done = absurd (cc)
cut_of at outer events ran done =
    ((goes_on_run events).1 (state_of at outer, ran), λ whole. absurd (let over = (whole_run events).0 whole in cc))

-- where there are no events
pub none_yet : IsWellFormed true []
none_yet = cut_of phase.Before [] [] refl refl

-- one collection more around
pub opens-push : (outer : List (Frame × Position)) (x : Frame × Position)
    → opens (outer ++ x ∷ []) ≡ open_of x.0 ∷ opens outer
opens-push outer x =
    ap reverse (map-append (λ (y : Frame × Position). open_of y.0) outer (x ∷ []))
    ∙ reverse-append (map (λ (y : Frame × Position). open_of y.0) outer) (open_of x.0 ∷ [])

starts_sequence : (o : Open) (opened : List Open) (anchor tag : Option (List ℕ))
    → next_state (within (o ∷ opened)) (sequence_start anchor tag)
    ≡ Some (within (Sequence ∷ open_after_node o ∷ opened))
starts_sequence Sequence opened anchor tag = refl
starts_sequence Key opened anchor tag = refl
starts_sequence Value opened anchor tag = refl

starts_mapping : (o : Open) (opened : List Open) (anchor tag : Option (List ℕ))
    → next_state (within (o ∷ opened)) (mapping_start anchor tag)
    ≡ Some (within (Key ∷ open_after_node o ∷ opened))
starts_mapping Sequence opened anchor tag = refl
starts_mapping Key opened anchor tag = refl
starts_mapping Value opened anchor tag = refl

-- a sequence begins within a collection
pub begins_sequence : (here back first : Frame) (opened : List Open) (anchor tag : Option (List ℕ))
    → open_of first ≡ Sequence → open_of back ≡ open_after_node (open_of here)
    → next_state (within (open_of here ∷ opened)) (sequence_start anchor tag)
    ≡ Some (within (open_of first ∷ open_of back ∷ opened))
begins_sequence here back first opened anchor tag is behind =
    starts_sequence (open_of here) opened anchor tag
    ∙ ap (λ o. Some (within (Sequence ∷ o ∷ opened))) (sym behind)
    ∙ ap (λ o. Some (within (o ∷ open_of back ∷ opened))) (sym is)

-- a mapping begins within a collection
pub begins_mapping : (here back first : Frame) (opened : List Open) (anchor tag : Option (List ℕ))
    → open_of first ≡ Key → open_of back ≡ open_after_node (open_of here)
    → next_state (within (open_of here ∷ opened)) (mapping_start anchor tag)
    ≡ Some (within (open_of first ∷ open_of back ∷ opened))
begins_mapping here back first opened anchor tag is behind =
    starts_mapping (open_of here) opened anchor tag
    ∙ ap (λ o. Some (within (Key ∷ o ∷ opened))) (sym behind)
    ∙ ap (λ o. Some (within (o ∷ open_of back ∷ opened))) (sym is)

takes_scalar : (o : Open) (opened : List Open) (s : PlainScalar)
    → next_state (within (o ∷ opened)) (scalar s) ≡ Some (within (open_after_node o ∷ opened))
takes_scalar Sequence opened s = refl
takes_scalar Key opened s = refl
takes_scalar Value opened s = refl

takes_alias : (o : Open) (opened : List Open) (a : List ℕ)
    → next_state (within (o ∷ opened)) (alias a) ≡ Some (within (open_after_node o ∷ opened))
takes_alias Sequence opened a = refl
takes_alias Key opened a = refl
takes_alias Value opened a = refl

-- a leaf within a collection
pub passes_scalar : (here back : Frame) (opened : List Open) (s : PlainScalar)
    → open_of back ≡ open_after_node (open_of here)
    → next_state (within (open_of here ∷ opened)) (scalar s) ≡ Some (within (open_of back ∷ opened))
passes_scalar here back opened s behind =
    takes_scalar (open_of here) opened s ∙ ap (λ o. Some (within (o ∷ opened))) (sym behind)

pub passes_alias : (here back : Frame) (opened : List Open) (a : List ℕ)
    → open_of back ≡ open_after_node (open_of here)
    → next_state (within (open_of here ∷ opened)) (alias a) ≡ Some (within (open_of back ∷ opened))
passes_alias here back opened a behind =
    takes_alias (open_of here) opened a ∙ ap (λ o. Some (within (o ∷ opened))) (sym behind)

ends_a_sequence : (o : Open) (opened : List Open) → ends_sequence o ≡ true
    → next_state (within (o ∷ opened)) sequence_end ≡ Some (within opened)
ends_a_sequence Sequence opened is = refl
ends_a_sequence Key opened is = absurd (cc)
ends_a_sequence Value opened is = absurd (cc)

ends_a_mapping : (o : Open) (opened : List Open) → ends_mapping o ≡ true
    → next_state (within (o ∷ opened)) mapping_end ≡ Some (within opened)
ends_a_mapping Sequence opened is = absurd (cc)
ends_a_mapping Key opened is = refl
ends_a_mapping Value opened is = absurd (cc)

-- the innermost collection ends
pub closes_sequence : (here : Frame) (opened : List Open) → ends_sequence (open_of here) ≡ true
    → next_state (within (open_of here ∷ opened)) sequence_end ≡ Some (within opened)
closes_sequence here opened is = ends_a_sequence (open_of here) opened is

pub closes_mapping : (here : Frame) (opened : List Open) → ends_mapping (open_of here) ≡ true
    → next_state (within (open_of here ∷ opened)) mapping_end ≡ Some (within opened)
closes_mapping here opened is = ends_a_mapping (open_of here) opened is

-- an event moves the machine on from a state that is the same
pub moves_still : (was now : Phase) (before outer : List (Frame × Position)) (event : PlainEvent)
    → (to : List (Frame × Position) → State) → now ≡ was → outer ≡ before
    → next_state (state_of was before) event ≡ Some (to before)
    → next_state (state_of now outer) event ≡ Some (to outer)
moves_still was now before outer event to same_phase same_outer moves =
    subst (λ os. next_state (state_of now os) event ≡ Some (to os)) (sym same_outer)
    (subst (λ p. next_state (state_of p before) event ≡ Some (to before)) (sym same_phase) moves)

-- the list of events that has grown by one
pub goes_to : (before after : List (Event × Position)) (x : Event × Position) (old new : State)
    → after ≡ before ++ x ∷ [] → run (Some before_stream) (plain_events before) ≡ Some old
    → next_state old (event_of x.0) ≡ Some new → run (Some before_stream) (plain_events after) ≡ Some new
goes_to before after x old new is ran next =
    ap (λ es. run (Some before_stream) (plain_events es)) is ∙ goes before x old new ran next

-- the list of events that has grown by one is shown in the text
pub shown_to : (text : List ℕ) (before after : List (Event × Position)) (x : Event × Position)
    → after ≡ before ++ x ∷ [] → AreShown text before → IsShown text (event_of x.0) x.1 → AreShown text after
shown_to text before after x is all here =
    subst (AreShown text) (sym is)
    (All-push (λ (e : Event × Position). IsShown text (event_of e.0) e.1) before x all here)

-- a scalar is shown by each mark at its index
pub shown_there : (text : List ℕ) (event : PlainEvent) (said begins : Position) → begins.index ≡ said.index
    → IsShown text event said → IsShown text event begins
shown_there text event said begins is shown =
    subst (λ i. IfSome (scalar_in event) (λ s. IsSomeAnd s.source (StandsAt text i))) (sym is) shown

-- so does each plain scalar of the list of events that has grown by one say its source
pub said_to : (before after : List (Event × Position)) (x : Event × Position)
    → after ≡ before ++ x ∷ [] → SaySources before → SaysSource (event_of x.0) → SaySources after
said_to before after x is all here =
    subst SaySources (sym is) (All-push (λ (e : Event × Position). SaysSource (event_of e.0)) before x all here)

-- so do the marks ascend, up to that of the new event
pub marks_to : (text : List ℕ) (before after : List (Event × Position)) (x : Event × Position) (reached : ℕ)
    → after ≡ before ++ x ∷ [] → MarksAscend text before → All (λ e. e.1.index ≤ reached) before
    → reached ≤ x.1.index → x.1.index ≤ length text → MarksAscend text after
marks_to text before after x reached is all last on low_enough =
    subst (MarksAscend text) (sym is) (
      All-push (λ (e : Event × Position). e.1.index ≤ length text) before x all.0 low_enough,
      IsNonDecreasingBy-push (λ (e : Event × Position). e.1.index) before x all.1
          (λ d some.
          let inside : length before - 1 < length before = omega arith in
          let low =
          All-get_or (λ (e : Event × Position). e.1.index ≤ reached) before (length before - 1) d inside last in
          omega arith),
    )

pub reached_to : (before after : List (Event × Position)) (x : Event × Position) (reached now : ℕ)
    → after ≡ before ++ x ∷ [] → All (λ e. e.1.index ≤ reached) before → reached ≤ x.1.index → now ≡ x.1.index
    → All (λ e. e.1.index ≤ now) after
reached_to before after x reached now is last on here =
    subst (All (λ (e : Event × Position). e.1.index ≤ now)) (sym is)
    (All-push (λ (e : Event × Position). e.1.index ≤ now) before x
    (All-weaker (λ (e : Event × Position). e.1.index ≤ reached) (λ (e : Event × Position). e.1.index ≤ now)
    (λ e h. omega arith) before last)
    (omega arith))

-- so are the marks in place, with that of the new event
pub placed_to : (text : List ℕ) (before after : List (Event × Position)) (x : Event × Position)
    → after ≡ before ++ x ∷ [] → AreInPlace text before → IsInPlace text x.1 → AreInPlace text after
placed_to text before after x is all here =
    subst (AreInPlace text) (sym is) (All-push (λ (e : Event × Position). IsInPlace text e.1) before x all here)

-- the list of collections that has grown by one
pub opened_more : (outer more : List (Frame × Position)) (first : Frame) (x : Frame × Position)
    → more ≡ outer ++ x ∷ []
    → within (open_of first ∷ open_of x.0 ∷ opens outer) ≡ within (open_of first ∷ opens more)
opened_more outer more first x is =
    ap (λ os. within (open_of first ∷ os)) (sym (ap opens is ∙ opens-push outer x))

-- what is open behind the end of a collection
pub left_open : (old new : List (Frame × Position)) (x : Frame × Position)
    → old ≡ new ++ x ∷ [] → within (opens old) ≡ within (open_of x.0 ∷ opens new)
left_open old new x was = ap within (ap opens was ∙ opens-push new x)

-- what is open behind the end of the outermost collection
pub left_none : (old : List (Frame × Position)) → length old ≡ 0 → within (opens old) ≡ within []
left_none old none = ap (λ xs. within (opens xs)) (nil_from_length old none)
