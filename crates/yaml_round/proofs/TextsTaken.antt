-- What a text is parsed to is what stands in it, so what was written is read.
use Rattle.std.proofs.Common.{◌≡◌, ◌∙◌, ◌<◌, ◌^◌, ℕ, List, Option, Some, Result, length, ap, subst}
use Rattle.yaml_base.specs.MarkedEvents.{plain_marked}
use Rattle.yaml_base.specs.PlainFault.{PlainFault}
use Rattle.yaml_base.specs.Position.{Position}
use Rattle.yaml_base.specs.declared.error.Cause.{Cause}
use Rattle.yaml_base.specs.declared.event.Event.{Event}
use Rattle.yaml_documents.specs.TextDocuments.{IsParsed}
use Rattle.yaml_documents.specs.TextEvents.{AreParsed}
use Rattle.yaml_read.specs.Documents.{Input}
use Rattle.yaml_read.specs.MarkedEvents.{events_in}
use Rattle.yaml_read.specs.TreeReader.{PlainLimits}
use Rattle.yaml_shape.specs.PlainData.{PlainData}
use Rattle.yaml_shape.specs.PlainShape.{PlainShape, shape_at}
use Rattle.yaml_shape.specs.declared.shape.ShapeId.{ShapeId}
use Rattle.serde_yaml.specs.StreamReads.{InputGives}
use Rattle.serde_yaml.specs.TextReads.{TextGives}
use Rattle.yaml_round.specs.InTexts.{TakesWhatStands}

-- a text that was parsed is taken as it stands
pub parsed_takes : (text : List ℕ) (events : List (Event × Position)) (fault : Option PlainFault)
    → length text < 2 ^ 32 → AreParsed text events fault → TakesWhatStands text (plain_marked events) fault
parsed_takes text events fault short parsed =
    record {
      taken = λ documents stand. let t = parsed.stands documents stand short in (t.0, ap events_in t.1);
    }

-- of what is known of an answer that a text is parsed to, what the type gives
pub gives_of : {A B : Input → Option PlainFault → Type 0} {text : List ℕ}
    → IsParsed text (λ events fault. A events fault × B events fault) → IsParsed text B
gives_of p = record { events = p.events; fault = p.fault; parsed = p.parsed; holds = p.holds.1 }

-- what is known of a text is known of the same text
pub in_text : {B : Input → Option PlainFault → Type 0} {a b : List ℕ} → a ≡ b → IsParsed a B → IsParsed b B
in_text {B} same p = subst (λ t. IsParsed t B) same p

-- what a call reads of a text under a shape of a table is read of the same text under the same shape
pub text_under : {limits : PlainLimits} {table schema : List PlainShape} {id number : ShapeId} {text bytes : List ℕ}
    {s : PlainShape} {given : Result PlainData Cause} → schema ≡ table → number ≡ id → bytes ≡ text
    → shape_at table id.0 ≡ Some s
    → ((s : PlainShape) → shape_at schema number.0 ≡ Some s → TextGives limits schema s bytes given)
    → TextGives limits table s text given
text_under {limits} {table} {schema} {id} {number} {text} {bytes} {s} {given} tables numbers texts is reads =
    in_text texts (subst (λ t. TextGives limits t s bytes given) tables
    (reads s (ap (λ t. shape_at t number.0) tables ∙ (ap (λ i. shape_at table i.0) numbers ∙ is))))

-- and so the events give it
pub read_under : {limits : PlainLimits} {table schema : List PlainShape} {id number : ShapeId} {text bytes : List ℕ}
    {s : PlainShape} {given : Result PlainData Cause} → schema ≡ table → number ≡ id → bytes ≡ text
    → shape_at table id.0 ≡ Some s
    → ((s : PlainShape) → shape_at schema number.0 ≡ Some s → TextGives limits schema s bytes given)
    → IsParsed text (λ events fault. InputGives limits table s events fault given)
read_under tables numbers texts is reads = gives_of (text_under tables numbers texts is reads)
