-- The law: of events that may be printed the text stands.
use Rattle.std.proofs.Common.{◌≡◌, ℕ, sym, ap, ◌∙◌, subst, List, Some}
use Rattle.std.proofs.lemmas.Option.{same_Some}
use Rattle.yaml_base.specs.EmitEvents.{PlainEmit}
use Rattle.yaml_base.specs.MarkedEvents.{events_in}
use Rattle.yaml_base.specs.Renders.{Renders}
use Rattle.yaml_emit.specs.LayoutMachine.{printed_from, unbegun}
use Rattle.yaml_emit.specs.StreamTexts.{IsStreamText, stream_text}
use Rattle.yaml_emit.proofs.TreeTexts.{prints_stream}
use Rattle.yaml_grammar.specs.Documents.{Stands}
use Rattle.yaml_grammar.specs.Nodes.{Document, events_of}
use Rattle.yaml_reading.proofs.DocumentLaws.{one_text}
use Rattle.yaml_printed.specs.Printable.{MayBePrinted, StandsFor}
use Rattle.yaml_printed.proofs.Streams.{stream_stands}
use Rattle.yaml_printed.proofs.TreeSpelling.{stream_is_text}

-- what stands for equal events in an equal text
moved : (events written : List PlainEmit) (text printed : List ℕ) → events ≡ written → text ≡ printed
    → StandsFor written printed → StandsFor events text
moved events written text printed e f s =
    subst (λ es. StandsFor es text) (sym e) (subst (StandsFor written) (sym f) s)

pub printed_stands : (events : List PlainEmit) (text : List ℕ) → IsStreamText events text → MayBePrinted events
    → StandsFor events text
printed_stands events text p m =
    let run : Some text ≡ Some (stream_text m.roots)
    = ap Some p.printed ∙ (sym (prints_stream p.roots) ∙ (ap (printed_from (Some unbegun)) (sym p.stream ∙ m.stream)
    ∙ prints_stream m.roots)) in
    moved events _ text (stream_text m.roots) m.stream (same_Some _ _ run)
    (stream_stands m.roots m.each m.first (stream_is_text m.roots m.each))

pub only_these : (events : List PlainEmit) (text : List ℕ) → IsStreamText events text → MayBePrinted events
    → (documents : List Document) → Stands text documents → Renders events (events_in (events_of text documents))
only_these events text p m documents stand =
    let s = printed_stands events text p m in
    subst (λ ds. Renders events (events_in (events_of text ds))) (one_text text s.documents documents s.stand stand)
    s.same
