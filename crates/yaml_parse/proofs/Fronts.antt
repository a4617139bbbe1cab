-- What is known of all events is known of the first of them.
use Rattle.std.proofs.Common.{◌≡◌, ◌≤◌, List, ◌++◌, ◌∙◌, All, Some, ap, append_assoc, length, subst, sym}
use Rattle.std.proofs.Math.Seq.{take-append_seam}
use Rattle.std.specs.Prelude.{ℕ, take}
use Rattle.std.proofs.lemmas.List.{map-append}
use Rattle.std.proofs.lemmas.List.Elements.{All-take}
use Rattle.std.proofs.lemmas.List.Sorted.{IsNonDecreasingBy-take}
use Rattle.yaml_base.specs.MarkedEvents.{plain_events}
use Rattle.yaml_base.specs.PlainEvent.{event_of}
use Rattle.yaml_base.specs.Position.{Position}
use Rattle.yaml_base.specs.Stream.{IsBeginning}
use Rattle.yaml_base.specs.StreamMachine.{State, before_stream, run}
use Rattle.yaml_base.specs.declared.event.Event.{Event}
use Rattle.yaml_base.proofs.StreamMachineLaws.{goes_on_run}
use Rattle.yaml_parse.specs.Marks.{MarksAscend}
use Rattle.yaml_parse.specs.Places.{AreInPlace, IsInPlace}
use Rattle.yaml_parse.specs.PlainText.{SaySources, SaysSource}
use Rattle.yaml_parse.specs.Shown.{AreShown, IsShown}

-- the front of events that begin with it
front : (all handed waiting : List (Event × Position)) → all ≡ handed ++ waiting → take (length handed) all ≡ handed
front all handed waiting is = ap (take (length handed)) is ∙ take-append_seam handed waiting

all_front : (P : Event × Position → Type 0) (all handed waiting : List (Event × Position)) → all ≡ handed ++ waiting
    → All P all → All P handed
all_front P all handed waiting is of_all =
    subst (All P) (front all handed waiting is) (All-take P (length handed) all of_all)

pub shown_front : (text : List ℕ) (all handed waiting : List (Event × Position)) → all ≡ handed ++ waiting
    → AreShown text all → AreShown text handed
shown_front text = all_front (λ e. IsShown text (event_of e.0) e.1)

pub said_front : (all handed waiting : List (Event × Position)) → all ≡ handed ++ waiting
    → SaySources all → SaySources handed
said_front = all_front (λ e. SaysSource (event_of e.0))

pub placed_front : (text : List ℕ) (all handed waiting : List (Event × Position)) → all ≡ handed ++ waiting
    → AreInPlace text all → AreInPlace text handed
placed_front text = all_front (λ e. IsInPlace text e.1)

pub marks_front : (text : List ℕ) (all handed waiting : List (Event × Position)) → all ≡ handed ++ waiting
    → MarksAscend text all → MarksAscend text handed
marks_front text all handed waiting is marks =
    subst (MarksAscend text) (front all handed waiting is) (
      All-take (λ (e : Event × Position). e.1.index ≤ length text) (length handed) all marks.0,
      IsNonDecreasingBy-take (λ (e : Event × Position). e.1.index) (length handed) all marks.1,
    )

-- the first events of a beginning of a stream are one too
pub begins_front : (all handed waiting : List (Event × Position)) (s : State) → all ≡ handed ++ waiting
    → run (Some before_stream) (plain_events all) ≡ Some s → IsBeginning (plain_events handed)
begins_front all handed waiting s is ran =
    let begins = (goes_on_run (plain_events all)).1 (s, ran) in
    let parts : plain_events all ≡ plain_events handed ++ plain_events waiting =
    ap plain_events is ∙ map-append (λ (e : Event × Position). event_of e.0) handed waiting in (
      plain_events waiting ++ begins.0,
      (
        begins.1.0,
        sym (append_assoc (plain_events handed) (plain_events waiting) begins.0)
            ∙ ap (λ es. es ++ begins.0) (sym parts) ∙ begins.1.1,
      ),
    )
