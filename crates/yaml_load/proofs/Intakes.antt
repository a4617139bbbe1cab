-- A loader takes one event more.
use Rattle.std.specs.Prelude.{◌≡◌, ◌+◌, ◌-◌, ◌∷◌, ◌++◌}
use Rattle.std.proofs.lemmas.List.{length-append}
use Rattle.std.specs.Option.{option_map}
use Rattle.std.specs.Bool.{beq}
use Rattle.yaml_load.proofs.Words.{false, ◌∙◌, ℕ, List, [], Option, Some, None, Bool, true, ap, arith, sym, subst, All}
use Rattle.yaml_load.proofs.Words.{append_assoc, append-nil, is_some, length, map-append, slice_get, Position}
use Rattle.yaml_load.proofs.Words.{PlainEvent, PlainFault, State, before_stream, next_state, run, Open, IsWellFormed}
use Rattle.yaml_load.proofs.Words.{Input, documents_of, last_mark, events_in, PlainDocument, IsDocument, Moves, is_done}
use Rattle.yaml_load.proofs.Words.{is_open, phase_state, Phase, Draft, IsDraftBetween, HasTaken, IsOnWay, IsReady}
use Rattle.yaml_load.proofs.Words.{TakesEvent}
use Rattle.yaml_load.proofs.Words.{run_append}
use Rattle.yaml_load.proofs.WrongPlaces.{right_end}
use Rattle.yaml_load.proofs.LoadingLaws.{flags_differ, ready}
use Rattle.yaml_load.proofs.LoadingTurns.{inside_phase, open_faulted, turns}
use Rattle.yaml_load.proofs.SettledLaws.{get_behind}
use Rattle.yaml_load.proofs.StreamEndings.{all_endings}
use Rattle.yaml_load.proofs.StreamTrees.{whole_has_tree}

-- the state behind one event more
ran_on : (taken : Input) (x : PlainEvent × Position) (s : State) → run (Some before_stream) (events_in taken) ≡ Some s
    → run (Some before_stream) (events_in (taken ++ x ∷ [])) ≡ next_state s x.0
ran_on taken x s ran =
    ap (run (Some before_stream)) (map-append (λ (e : PlainEvent × Position). e.0) taken (x ∷ []))
    ∙ run_append (events_in taken) (x.0 ∷ []) (Some before_stream) ∙ ap (λ o. run o (x.0 ∷ [])) ran

last_on : (taken : Input) (x : PlainEvent × Position) → Some x.1 ≡ last_mark (taken ++ x ∷ [])
last_on taken x =
    let at : length (taken ++ x ∷ []) - 1 ≡ length taken = omega (arith, length-append taken (x ∷ [])) in
    sym (ap (λ i. option_map (λ (e : PlainEvent × Position). e.1) (slice_get (taken ++ x ∷ []) i)) at
    ∙ ap (option_map (λ (e : PlainEvent × Position). e.1)) (get_behind taken [] x))

module _ {phase : Phase} {outer : List Open} {end : Option Position} {count : ℕ} {taken : Input} {old : Draft}
    (had : HasTaken phase outer end count taken old) where
  pub taken_on : (after : Phase) (behind : List Open) (e : PlainEvent) (mark : Position) (new : Draft)
      → Moves phase outer e behind (Some after) → TakesEvent e mark old new
      → HasTaken after behind (Some mark) (count + 1) (taken ++ (e, mark) ∷ []) new
  taken_on after behind e mark new moves takes =
      let x : PlainEvent × Position = (e, mark) in
      let turn = turns (phase_state phase outer) e (phase_state after behind) moves.0 in
      record {
        clean = moves.1;
        ran = ran_on taken x (phase_state phase outer) had.ran ∙ moves.0;
        last = last_on taken x;
        counted = omega (arith, had.counted, length-append taken (x ∷ []));
        way = λ fault rest. rw (append_assoc taken (x ∷ []) rest, turn.1)
            (takes fault (taken ++ x ∷ rest) rest (rw turn.0 at (had.way fault (x ∷ rest))));
      }

  -- the draft at the end of the events
  way_to_end : (inside : Bool) (fault : Option PlainFault) → is_open phase ≡ inside → IsOnWay inside fault taken [] old
  way_to_end inside fault is = rw (append-nil, inside_phase phase outer, is) at (had.way fault [])

  -- where a document is open the draft is ready
  pub ready_in : is_open phase ≡ true → IsReady old
  ready_in opened = ready (way_to_end true None opened)

  -- what closing the draft makes of it, where the stream has ended or a fault is there, and not both
  pub closed : (new : Draft) (inside after faulted : Bool) (fault : Option PlainFault) → inside ≡ is_open phase
      → after ≡ is_done phase → faulted ≡ is_some fault → beq after faulted ≡ false
      → ((all : Input) → end ≡ last_mark all → (inside ≡ true → is_some fault ≡ true)
      → IsOnWay inside fault all [] old → IsDraftBetween (documents_of all fault) new)
      → IsDraftBetween (documents_of taken fault) new × IsWellFormed (is_some fault) (events_in taken)
  closed new inside after faulted fault is a f differ closes =
      let other : is_done phase ≡ is_some fault → ⊥ = λ same. flags_differ _ _ differ (a ∙ same ∙ sym f) in (
        closes taken had.last (λ held. open_faulted phase (is_some fault) other (sym is ∙ held))
            (way_to_end inside fault (sym is)),
        right_end (is_some fault) phase outer (events_in taken) had.ran other,
      )

-- the documents of a stream have their trees, and are cut off by what may cut them off
pub all_documents : (taken : Input) (fault : Option PlainFault) (shown : List PlainDocument)
    → shown ≡ documents_of taken fault → IsWellFormed (is_some fault) (events_in taken) → All IsDocument shown
all_documents taken fault shown is accepted =
    let trees = whole_has_tree taken fault accepted in
    let endings = all_endings taken fault in
    subst (All IsDocument) (sym is) (λ k d lt. record { tree = trees k d lt; ending = endings k d lt })
