-- Whether a document is open, by the state that events lead to.
use Rattle.std.proofs.Common.{◌≡◌, List, [], ◌∷◌, ◌++◌, refl, sym, ◌∙◌, ap, Bool, true, false, Option, Some, None}
use Rattle.yaml_base.proofs.StreamMachineLaws.{goes_on_run, run_append, whole_run}
use Rattle.yaml_base.specs.declared.open.Open.TheVariants.{Sequence, Key, Value}
use Rattle.yaml_load.proofs.LoadingTurns.{turns}
use Rattle.yaml_load.proofs.Words.{Input, IsBeginning, IsStream, IsWellFormed, PlainEvent, Position, State}
use Rattle.yaml_load.proofs.Words.{after_stream}
use Rattle.yaml_load.proofs.Words.{alias, before_root, before_stream, between_documents, document_end, document_start}
use Rattle.yaml_load.proofs.Words.{events_in, is_inside, is_open_after, mapping_end, mapping_start, next_state}
use Rattle.yaml_load.proofs.Words.{open_before, open_behind, run, scalar, sequence_end, sequence_start, stream_end}
use Rattle.yaml_load.proofs.Words.{stream_start, within}

opens_as : (e : PlainEvent) (mark : Position) (input : Input)
    → is_open_after (open_before e) ((e, mark) ∷ input) ≡ is_open_after (open_behind e) input
opens_as stream_start mark input = refl
opens_as stream_end mark input = refl
opens_as document_start mark input = refl
opens_as document_end mark input = refl
opens_as (alias a) mark input = refl
opens_as (scalar s) mark input = refl
opens_as (sequence_start a g) mark input = refl
opens_as sequence_end mark input = refl
opens_as (mapping_start a g) mark input = refl
opens_as mapping_end mark input = refl

open_nothing : (o : Bool) → is_open_after o [] ≡ o
open_nothing true = refl
open_nothing false = refl

run_nowhere : (es : List PlainEvent) → run None es ≡ None
run_nowhere [] = refl
run_nowhere (e ∷ es) = refl

open_next : (s : State) (e : PlainEvent × Position) (input : Input) (t : State) (o : Option State)
    → next_state s e.0 ≡ o → run o (events_in input) ≡ Some t
    → ((u : State) → run (Some u) (events_in input) ≡ Some t → is_open_after (is_inside u) input ≡ is_inside t)
    → is_open_after (is_inside s) (e ∷ input) ≡ is_inside t
open_next s e input t None is ran more = absurd (let stop = run_nowhere (events_in input) in cc)
open_next s e input t (Some u) is ran more =
    let turn = turns s e.0 u is in
    ap (λ b. is_open_after b (e ∷ input)) turn.0 ∙ opens_as e.0 e.1 input
    ∙ ap (λ b. is_open_after b input) (sym turn.1) ∙ more u ran

-- a document is open behind events that lead into one
pub open_state : (s : State) (input : Input) (t : State) → run (Some s) (events_in input) ≡ Some t
    → is_open_after (is_inside s) input ≡ is_inside t
open_state s [] t ran =
    let same : s ≡ t = cc in
    open_nothing (is_inside s) ∙ ap is_inside same
open_state s (e ∷ input) t ran =
    open_next s e input t (next_state s e.0) refl ran (λ u ran_on. open_state u input t ran_on)

-- a document ends between documents, and was open before
pub behind_end : (s t : State) → next_state s document_end ≡ Some t → (t ≡ between_documents) × (is_inside s ≡ true)
behind_end before_stream t h = absurd (cc)
behind_end between_documents t h = absurd (cc)
behind_end before_root t h = absurd (cc)
behind_end (within []) t h = (cc, refl)
behind_end (within (Sequence ∷ o)) t h = absurd (cc)
behind_end (within (Key ∷ o)) t h = absurd (cc)
behind_end (within (Value ∷ o)) t h = absurd (cc)
behind_end after_stream t h = absurd (cc)

-- the state in front of the last event
pub before_last : (es : List PlainEvent) (x : PlainEvent) (t : State) (o : Option State)
    → run (Some before_stream) es ≡ o → run (Some before_stream) (es ++ x ∷ []) ≡ Some t
    → (s : State) × (o ≡ Some s) × (next_state s x ≡ Some t)
before_last es x t None is ran =
    absurd (let stop = sym ran ∙ run_append es (x ∷ []) (Some before_stream) ∙ ap (λ o. run o (x ∷ [])) is in cc)
before_last es x t (Some s) is ran = (
  s,
  refl,
  sym (run_append es (x ∷ []) (Some before_stream) ∙ ap (λ o. run o (x ∷ [])) is) ∙ ran,
)

-- the state behind one event more
pub run_on : (es : List PlainEvent) (x : PlainEvent) (s : State) → run (Some before_stream) es ≡ Some s
    → run (Some before_stream) (es ++ x ∷ []) ≡ next_state s x
run_on es x s ran = run_append es (x ∷ []) (Some before_stream) ∙ ap (λ o. run o (x ∷ [])) ran

-- events that lead to one state are streams or beginnings of streams alike
pub begins_alike : (es fs : List PlainEvent) → run (Some before_stream) es ≡ run (Some before_stream) fs
    → IsBeginning fs
    → IsBeginning es
begins_alike es fs same b = let on = (goes_on_run fs).0 b in (goes_on_run es).1 (on.0, same ∙ on.1)

pub well_formed_alike : (faulted : Bool) (es fs : List PlainEvent)
    → run (Some before_stream) es ≡ run (Some before_stream) fs → IsWellFormed faulted fs → IsWellFormed faulted es
well_formed_alike false es fs same w = (whole_run es).1 (same ∙ (whole_run fs).0 w)
well_formed_alike true es fs same w = (
  begins_alike es fs same w.0,
  λ (whole : IsStream es). w.1 ((whole_run fs).1 (sym same ∙ (whole_run es).0 whole)),
)
