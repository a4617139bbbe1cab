-- Events whose tags are read as they are written: a character 0 stands in no tag of a text.
use Rattle.std.specs.Prelude.{ℕ, Bool, true, not, List, Option, None, Some, nat_eq}
use Rattle.std.specs.List.{list_all, list_any}
use Rattle.yaml_base.specs.EmitEvents.{PlainEmit, emit_scalar, emit_sequence_start, emit_mapping_start}

-- the tag, if there is one, has no character 0
abbrev pub is_whole_tag : Option (List ℕ) → Bool
is_whole_tag None = true
is_whole_tag (Some tag) = not (list_any (nat_eq 0) tag)

-- the tag of the event, if it has one
abbrev pub has_whole_tag : PlainEmit → Bool
has_whole_tag (emit_scalar tag text style) = is_whole_tag tag
has_whole_tag (emit_sequence_start tag) = is_whole_tag tag
has_whole_tag (emit_mapping_start tag) = is_whole_tag tag
has_whole_tag _ = true

-- no tag of the events has a character 0
abbrev pub have_whole_tags : List PlainEmit → Bool
have_whole_tags events = list_all has_whole_tag events
