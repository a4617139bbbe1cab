-- Events of which no text is stored, as plain events.
use Rattle.std.specs.Prelude.{ℕ, List, Option}
use Rattle.std.specs.Option.{option_map}
use Rattle.yaml_base.specs.EmitEvents.{PlainEmit, emit_stream_start, emit_stream_end, emit_document_start}
use Rattle.yaml_base.specs.EmitEvents.{emit_document_end, emit_scalar, emit_sequence_start, emit_sequence_end}
use Rattle.yaml_base.specs.EmitEvents.{emit_mapping_start, emit_mapping_end}
use Rattle.yaml_base.specs.declared.history.History.{History}
use Rattle.yaml_emit.specs.declared.noted.Noted.{Noted}
use Rattle.yaml_emit.specs.declared.noted.Noted.TheVariants as noted

-- the bytes of a tag, if there is one
abbrev pub noted_tag : Option (History ℕ) → Option (List ℕ)
noted_tag = option_map (λ h. h.items)

-- the plain event
abbrev pub noted_of : Noted → PlainEmit
noted_of noted.StreamStart = emit_stream_start
noted_of noted.StreamEnd = emit_stream_end
noted_of noted.DocumentStart = emit_document_start
noted_of noted.DocumentEnd = emit_document_end
noted_of (noted.Scalar tag text style) = emit_scalar (noted_tag tag) text.items style
noted_of (noted.SequenceStart tag) = emit_sequence_start (noted_tag tag)
noted_of noted.SequenceEnd = emit_sequence_end
noted_of (noted.MappingStart tag) = emit_mapping_start (noted_tag tag)
noted_of noted.MappingEnd = emit_mapping_end
