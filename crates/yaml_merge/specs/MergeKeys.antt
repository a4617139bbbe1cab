-- Which keys of a document are merge keys.
use Rattle.std.specs.Prelude.{ℕ, ◌+◌, List, [], ◌∷◌, drop, slice_get, Bool, true, false, ◌&&◌, if◌then◌else◌}
use Rattle.std.specs.Prelude.{Option, Some, None, bytes_eq, codes}
use Rattle.std.specs.Option.{option_map_or}
use Rattle.yaml_base.specs.PlainDocEvent.{PlainDocEvent, alias_to, a_scalar, sequence_begins, sequence_ends}
use Rattle.yaml_base.specs.PlainDocEvent.{mapping_begins, mapping_ends}
use Rattle.yaml_base.specs.Position.{Position}
use Rattle.yaml_base.specs.declared.event.ScalarStyle.{ScalarStyle}
use Rattle.yaml_base.specs.declared.event.ScalarStyle.TheVariants as style
use Rattle.yaml_base.specs.declared.open.Open.{Open}
use Rattle.yaml_base.specs.declared.open.Open.TheVariants.{Sequence, Key, Value}

-- the events of a document, each with its mark
abbrev pub Events : Type 0
Events = List (PlainDocEvent × Position)

-- there is no tag, or the one of merge keys
abbrev pub is_merge_tag : Option (List ℕ) → Bool
is_merge_tag None = true
is_merge_tag (Some tag) = bytes_eq tag (codes "tag:yaml.org,2002:merge")

-- the scalar stands without quotes
abbrev pub is_plain : ScalarStyle → Bool
is_plain style.Plain = true
is_plain _ = false

-- the event is the word of a merge key, a plain `<<`
abbrev pub is_merge_word : PlainDocEvent → Bool
is_merge_word (a_scalar s) = is_merge_tag s.tag && (is_plain s.style && bytes_eq s.text (codes "<<"))
is_merge_word _ = false

-- the event in a place is such a word
abbrev pub is_merge_word_at : Events → ℕ → Bool
is_merge_word_at events place = option_map_or (λ e. is_merge_word e.0) (slice_get events place) false

-- the node that begins with this event is such a word, or stands for one
abbrev pub is_merge_node : Events → PlainDocEvent → Bool
is_merge_node events (alias_to target) = is_merge_word_at events target
is_merge_node events e = is_merge_word e

-- what the open collections wait for behind a node, the innermost first, by what they waited for before it
abbrev pub turned : List Open → List Open
turned [] = []
turned (Key ∷ opened) = Value ∷ opened
turned (Value ∷ opened) = Key ∷ opened
turned (Sequence ∷ opened) = Sequence ∷ opened

-- the same behind an event
abbrev pub open_behind : PlainDocEvent → List Open → List Open
open_behind (sequence_begins tag) opened = Sequence ∷ turned opened
open_behind (mapping_begins tag) opened = Key ∷ turned opened
open_behind sequence_ends opened = drop 1 opened
open_behind mapping_ends opened = drop 1 opened
open_behind _ opened = turned opened

-- the innermost waits for a key
abbrev pub awaits_key : List Open → Bool
awaits_key (Key ∷ opened) = true
awaits_key _ = false

-- The place of the first merge key among events from a place on. These are open there.
abbrev pub first_key_from : (document : Events) → ℕ → List Open → Events → Option ℕ
first_key_from document place opened [] = None
first_key_from document place opened (e ∷ events) =
    if awaits_key opened && is_merge_node document e.0 then Some place
    else first_key_from document (place + 1) (open_behind e.0 opened) events

-- the place of a document's first merge key, if it has one
abbrev pub first_merge_key : Events → Option ℕ
first_merge_key events = first_key_from events 0 [] events
