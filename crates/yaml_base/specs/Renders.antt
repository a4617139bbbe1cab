-- How what is written may come back from a parser: the same structure, tags and texts, in styles that are permitted.
use Rattle.std.specs.Prelude.{◌≡◌, ℕ, List, [], ◌∷◌, Bool, true, false, IsTrue, Option, None}
use Rattle.yaml_base.specs.EmitEvents.{PlainEmit, emit_stream_start, emit_stream_end, emit_document_start}
use Rattle.yaml_base.specs.EmitEvents.{emit_document_end, emit_scalar, emit_sequence_start, emit_sequence_end}
use Rattle.yaml_base.specs.EmitEvents.{emit_mapping_start, emit_mapping_end}
use Rattle.yaml_base.specs.PlainEvent.{PlainScalar, PlainEvent, stream_start, stream_end, document_start, document_end}
use Rattle.yaml_base.specs.PlainEvent.{scalar, sequence_start, sequence_end, mapping_start, mapping_end}
use Rattle.yaml_base.specs.declared.emitter.AskedStyle.{AskedStyle}
use Rattle.yaml_base.specs.declared.emitter.AskedStyle.TheVariants as asked
use Rattle.yaml_base.specs.declared.event.ScalarStyle.{ScalarStyle}
use Rattle.yaml_base.specs.declared.event.ScalarStyle.TheVariants as style

-- Which styles a scalar may come in: plain where that is asked; any where any is; else any but plain.
abbrev pub permits : AskedStyle → ScalarStyle → Bool
permits asked.Any _ = true
permits asked.Plain style.Plain = true
permits asked.Plain _ = false
permits asked.SingleQuoted style.Plain = false
permits asked.SingleQuoted _ = true
permits asked.Literal style.Plain = false
permits asked.Literal _ = true

-- the scalar has this tag and this text, a style that is permitted, and no anchor; its source may be anything
pub record RendersScalar (tag : Option (List ℕ)) (text : List ℕ) (style : AskedStyle) (s : PlainScalar) : Type 0 where
  pub unanchored : s.anchor ≡ None
  pub same_tag : s.tag ≡ tag
  pub same_text : s.text ≡ text
  pub permitted : IsTrue (permits style s.style)

-- the event of a parser is what the event for an emitter may come back as
abbrev pub RendersEvent : PlainEmit → PlainEvent → Type 0
RendersEvent emit_stream_start event = event ≡ stream_start
RendersEvent emit_stream_end event = event ≡ stream_end
RendersEvent emit_document_start event = event ≡ document_start
RendersEvent emit_document_end event = event ≡ document_end
RendersEvent (emit_scalar tag text style) event =
    (s : PlainScalar) × (event ≡ scalar s) × RendersScalar tag text style s
RendersEvent (emit_sequence_start tag) event = event ≡ sequence_start None tag
RendersEvent emit_sequence_end event = event ≡ sequence_end
RendersEvent (emit_mapping_start tag) event = event ≡ mapping_start None tag
RendersEvent emit_mapping_end event = event ≡ mapping_end

-- the events of a parser are, place by place, what the events for an emitter may come back as
abbrev pub Renders : List PlainEmit → List PlainEvent → Type 0
Renders [] [] = Unit {0}
Renders (written ∷ later) (event ∷ events) = RendersEvent written event × Renders later events
Renders _ _ = ⊥
