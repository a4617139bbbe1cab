-- The events around the parts of a collection.
use Rattle.std.specs.Prelude.{ℕ, List, Bool, if◌then◌else◌, Option}
use Rattle.yaml_base.specs.EmitEvents.{PlainEmit, emit_sequence_start, emit_sequence_end, emit_mapping_start}
use Rattle.yaml_base.specs.EmitEvents.{emit_mapping_end}

-- the start of a mapping where the parts are keys with values, else of a sequence
abbrev pub start_by : (paired : Bool) → (tag : Option (List ℕ)) → PlainEmit
start_by paired tag = if paired then emit_mapping_start tag else emit_sequence_start tag

-- the end of it
abbrev pub end_by : (paired : Bool) → PlainEmit
end_by paired = if paired then emit_mapping_end else emit_sequence_end
