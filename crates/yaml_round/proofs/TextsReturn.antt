-- What was printed stands in the grammar, and comes back from any documents that stand in its text.
use Rattle.std.proofs.Common.{◌≡◌, ℕ, zero, suc, arith, List, [], ◌∷◌, Option, None, Ok, true, refl, sym, subst}
use Rattle.std.specs.List.{All}
use Rattle.yaml_base.specs.EmitEvents.{PlainEmit}
use Rattle.yaml_base.specs.EmitTree.{EmitNode}
use Rattle.yaml_base.specs.PlainFault.{PlainFault}
use Rattle.yaml_base.specs.Renders.{Renders}
use Rattle.yaml_emit.specs.StreamTexts.{IsStreamText}
use Rattle.yaml_shape.specs.Held.{IsHeld, is_table}
use Rattle.yaml_shape.specs.PlainData.{PlainData}
use Rattle.yaml_shape.specs.PlainShape.{PlainShape}
use Rattle.yaml_types.specs.Start.{Start}
use Rattle.yaml_write.specs.Written.{written}
use Rattle.yaml_printed.specs.Printable.{MayBePrinted}
use Rattle.yaml_printed.specs.WrittenRoots.{FitsText, IsWrittenRoot}
use Rattle.yaml_printed.proofs.Outcomes.{made_ok}
use Rattle.yaml_printed.proofs.Whole.{only_these, printed_stands}
use Rattle.yaml_printed.proofs.WrittenStreams.{may_be_printed}
use Rattle.yaml_read.specs.Documents.{Input}
use Rattle.yaml_read.specs.MarkedEvents.{events_in}
use Rattle.serde_yaml.specs.Printed.{HasText, IsDataWritten, printed_as}
use Rattle.serde_yaml.specs.TypedWrites.{TypeWrites, written_stream}
use Rattle.yaml_round.specs.InTexts.{AreEventsOf, StandsAsWritten, TakesWhatStands}
use Rattle.yaml_round.specs.ReadsBack.{ComesBack}
use Rattle.yaml_round.proofs.TypedReturn.{wrote}

-- one document that data is written as may be printed
one_may : (table : List PlainShape) (id : ℕ) (d : PlainData) (root : EmitNode) → is_table table ≡ true → IsHeld d
    → FitsText table id d → written table id None d ≡ Ok root → MayBePrinted (written_stream root)
one_may table id d root named held fits is = may_be_printed (root ∷ []) only
  where
    only : All IsWrittenRoot (root ∷ [])
    only zero other h =
        record { table = table; id = id; content = d; named = named; held = held; is_written = is; fits = fits }
    only (suc k) other h = absurd (omega (arith, h))

-- the events of documents that stand in a text are what those that were printed may come back as
come_back : (events : List PlainEmit) {text : List ℕ} {input : Input} → IsStreamText events text → MayBePrinted events
    → AreEventsOf text input → Renders events (events_in input)
come_back events {text} printed may found =
    subst (Renders events) (sym found.same) (only_these events text printed may found.documents found.stand)

module _ {start : Start} {d : PlainData} {unwritten : List ℕ → Type 0} (named : is_table start.0 ≡ true)
    (held : IsHeld d) (fits : FitsText start.0 start.1 d) where
  value_may : (events : List PlainEmit) → TypeWrites start d unwritten (Ok events) → MayBePrinted events
  value_may events writes =
      let w = wrote events writes refl in
      subst MayBePrinted w.stream (one_may start.0 start.1 d w.root named held fits w.is_written)

  pub value_stands : (text : List ℕ) → HasText (TypeWrites start d unwritten) text
      → StandsAsWritten (TypeWrites start d unwritten) text
  value_stands text (printed_as events writes printed) =
      record {
        events = events;
        writes = writes;
        stands = printed_stands events text printed (value_may events writes);
      }

  pub value_comes : (text : List ℕ) (input : Input) → HasText (TypeWrites start d unwritten) text
      → AreEventsOf text input
      → (events : List PlainEmit) × TypeWrites start d unwritten (Ok events) × Renders events (events_in input)
  value_comes text input (printed_as events writes printed) found =
      (events, writes, come_back events printed (value_may events writes) found)

  -- of a parser that takes what stands
  pub value_taken : (text : List ℕ) (input : Input) (fault : Option PlainFault)
      → HasText (TypeWrites start d unwritten) text → TakesWhatStands text input fault
      → (fault ≡ None) × (events : List PlainEmit) × TypeWrites start d unwritten (Ok events)
      × Renders events (events_in input)
  value_taken text input fault printed takes =
      let s = (value_stands text printed).stands in
      let t = takes.taken s.documents s.stand in
      let back = value_comes text input printed (record { documents = s.documents; stand = s.stand; same = t.1 }) in
      (t.0, back.0, back.1, back.2)

module _ {table : List PlainShape} {id : ℕ} {d : PlainData} (named : is_table table ≡ true) (held : IsHeld d)
    (fits : FitsText table id d) where
  data_may : (events : List PlainEmit) → IsDataWritten table id d (Ok events) → MayBePrinted events
  data_may events writes =
      let m = made_ok written_stream (written table id None d) events writes in
      subst MayBePrinted (sym m.2) (one_may table id d m.0 named held fits m.1)

  pub data_stands_printed : (text : List ℕ) → HasText (IsDataWritten table id d) text
      → StandsAsWritten (IsDataWritten table id d) text
  data_stands_printed text (printed_as events writes printed) =
      record {
        events = events;
        writes = writes;
        stands = printed_stands events text printed (data_may events writes);
      }

  pub data_comes : (text : List ℕ) (input : Input) → HasText (IsDataWritten table id d) text → AreEventsOf text input
      → ComesBack table id d input
  data_comes text input (printed_as events writes printed) found =
      let m = made_ok written_stream (written table id None d) events writes in
      record {
        root = m.0;
        is_written = m.1;
        rendered = subst (λ es. Renders es (events_in input)) m.2
            (come_back events printed (data_may events writes) found);
      }

  -- of a parser that takes what stands
  pub data_taken : (text : List ℕ) (input : Input) (fault : Option PlainFault)
      → HasText (IsDataWritten table id d) text → TakesWhatStands text input fault
      → (fault ≡ None) × ComesBack table id d input
  data_taken text input fault printed takes =
      let s = (data_stands_printed text printed).stands in
      let t = takes.taken s.documents s.stand in
      (t.0, data_comes text input printed (record { documents = s.documents; stand = s.stand; same = t.1 }))
