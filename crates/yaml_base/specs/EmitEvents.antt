-- Events for an emitter without where they lie in memory.
use Rattle.std.specs.Prelude.{ℕ, List, Option, String, string_bytes}
use Rattle.std.specs.Option.{option_map}
use Rattle.std.specs.declared.alloc.Global.{Global}
use Rattle.yaml_base.specs.declared.emitter.AskedStyle.{AskedStyle}
use Rattle.yaml_base.specs.declared.emitter.EmitEvent.{EmitEvent}
use Rattle.yaml_base.specs.declared.emitter.EmitEvent.TheVariants as event

-- an event for an emitter; a tag and a text are their bytes
pub data PlainEmit : Type 0 where
  emit_stream_start : PlainEmit
  emit_stream_end : PlainEmit
  emit_document_start : PlainEmit
  emit_document_end : PlainEmit
  emit_scalar : (tag : Option (List ℕ)) → (text : List ℕ) → (style : AskedStyle) → PlainEmit
  emit_sequence_start : (tag : Option (List ℕ)) → PlainEmit
  emit_sequence_end : PlainEmit
  emit_mapping_start : (tag : Option (List ℕ)) → PlainEmit
  emit_mapping_end : PlainEmit

-- the bytes of a tag, if there is one
abbrev pub tag_bytes : Option (String Global) → Option (List ℕ)
tag_bytes = option_map string_bytes

-- the plain event of an event
abbrev pub emit_of : EmitEvent → PlainEmit
emit_of event.StreamStart = emit_stream_start
emit_of event.StreamEnd = emit_stream_end
emit_of event.DocumentStart = emit_document_start
emit_of event.DocumentEnd = emit_document_end
emit_of (event.Scalar s) = emit_scalar (tag_bytes s.tag) (string_bytes s.value) s.style
emit_of (event.SequenceStart start) = emit_sequence_start (tag_bytes start.tag)
emit_of event.SequenceEnd = emit_sequence_end
emit_of (event.MappingStart start) = emit_mapping_start (tag_bytes start.tag)
emit_of event.MappingEnd = emit_mapping_end
