-- A rendering of written events: each scalar in the style, and with the slice of a source, chosen for its place.
use Rattle.std.specs.Prelude.{ℕ, suc, List, [], ◌∷◌, Option, None}
use Rattle.yaml_base.specs.EmitEvents.{PlainEmit, emit_stream_start, emit_stream_end, emit_document_start}
use Rattle.yaml_base.specs.EmitEvents.{emit_document_end, emit_scalar, emit_sequence_start, emit_sequence_end}
use Rattle.yaml_base.specs.EmitEvents.{emit_mapping_start, emit_mapping_end}
use Rattle.yaml_base.specs.PlainEvent.{PlainEvent, stream_start, stream_end, document_start, document_end}
use Rattle.yaml_base.specs.PlainEvent.{scalar, sequence_start, sequence_end, mapping_start, mapping_end}
use Rattle.yaml_base.specs.declared.emitter.AskedStyle.{AskedStyle}
use Rattle.yaml_base.specs.declared.event.ScalarStyle.{ScalarStyle}

-- one event
abbrev pub rendered_event : (AskedStyle → ScalarStyle) → (source : Option (List ℕ)) → PlainEmit → PlainEvent
rendered_event choose source emit_stream_start = stream_start
rendered_event choose source emit_stream_end = stream_end
rendered_event choose source emit_document_start = document_start
rendered_event choose source emit_document_end = document_end
rendered_event choose source (emit_scalar tag text asked) =
    scalar (record { anchor = None; tag = tag; text = text; style = choose asked; source = source })
rendered_event choose source (emit_sequence_start tag) = sequence_start None tag
rendered_event choose source emit_sequence_end = sequence_end
rendered_event choose source (emit_mapping_start tag) = mapping_start None tag
rendered_event choose source emit_mapping_end = mapping_end

-- the events from a place on
abbrev pub rendered : (ℕ → AskedStyle → ScalarStyle) → (source : ℕ → Option (List ℕ)) → (place : ℕ) → List PlainEmit
    → List PlainEvent
rendered choose source place [] = []
rendered choose source place (event ∷ events) =
    rendered_event (choose place) (source place) event ∷ rendered choose source (suc place) events
