-- How a text grows with the events of its stream: what was printed, and which collections are open. Private calls cite
-- it.
use Rattle.std.specs.Prelude.{◌≡◌, ℕ, Bool, true, false, List, [], ◌∷◌, ◌++◌, Option, None, Some, Result, Ok, Err}
use Rattle.std.specs.Prelude.{codes, reverse, string_bytes}
use Rattle.std.specs.Option.{option_map}
use Rattle.yaml_base.specs.EmitEvents.{PlainEmit, emit_stream_start, emit_stream_end, emit_document_start}
use Rattle.yaml_base.specs.EmitEvents.{emit_document_end, emit_scalar, emit_sequence_start, emit_sequence_end}
use Rattle.yaml_base.specs.EmitEvents.{emit_mapping_start, emit_mapping_end}
use Rattle.yaml_base.specs.EmitTree.{EmitNode, emit_scalar_node, emit_sequence_node, emit_mapping_node}
use Rattle.yaml_base.specs.EmitTree.{no_emit_nodes, no_emit_pairs}
use Rattle.yaml_emit.specs.Places.{root_place, item_place, far_place, key_place, value_place, tag_in_line, behind_tag}
use Rattle.yaml_emit.specs.Places.{margin}
use Rattle.yaml_emit.specs.StreamTexts.{tag_or_empty, is_simple_key, items_column, node_text}
use Rattle.yaml_emit.specs.declared.layout.Layout.{Layout}
use Rattle.yaml_emit.specs.declared.layout.Next.{Next}
use Rattle.yaml_emit.specs.declared.layout.Next.TheVariants as next
use Rattle.yaml_emit.specs.declared.open.Awaits.{Awaits}
use Rattle.yaml_emit.specs.declared.open.Awaits.TheVariants.{Item, Key, Value, FarValue}
use Rattle.yaml_emit.specs.declared.open.Lead.{Lead}
use Rattle.yaml_emit.specs.declared.open.Lead.TheVariants.{Fresh, Text}
use Rattle.yaml_emit.specs.declared.open.Open.{Open}
use Rattle.yaml_emit.specs.declared.open.Place.{Place}
use Rattle.yaml_emit.specs.declared.stop.Stop.{Stop}
use Rattle.yaml_emit.specs.declared.stop.Stop.TheVariants.{OutOfPlace, Memory}

-- where the events stand; within a document, the open collections, the innermost first
pub data LayoutState : Type 0 where
  before_stream : LayoutState
  between_documents : LayoutState
  before_root : LayoutState
  within : List Open → LayoutState
  after_stream : LayoutState

-- the text so far, whether no document stands before the next one, and where the events stand
pub record Laid : Type 0 where
  pub out : List ℕ
  pub first : Bool
  pub state : LayoutState

-- where the events stand, by what comes next and the collections around the innermost open one
abbrev pub layout_state_of : Next → List Open → LayoutState
layout_state_of next.Stream outer = before_stream
layout_state_of next.Document outer = between_documents
layout_state_of next.Root outer = before_root
layout_state_of (next.Part o) outer = within (o ∷ outer)
layout_state_of next.End outer = within []
layout_state_of next.Nothing outer = after_stream

-- what a layout holds
abbrev pub laid : Layout → Laid
laid l = record { out = string_bytes l.out; first = l.is_first; state = layout_state_of l.next (reverse l.outer.items) }

-- nothing was printed
abbrev pub unbegun : Laid
unbegun = record { out = []; first = true; state = before_stream }

-- what stands before the root of the first document, or of a later one
abbrev pub root_lead : (first : Bool) → Lead
root_lead true = Fresh
root_lead false = Text

-- the mark of a document
abbrev pub document_mark : (first : Bool) → List ℕ
document_mark true = []
document_mark false = codes "---"

-- the margin and the indicator of a part, of which the value of a simple key has none
abbrev pub margin_and_indicator : Awaits → Lead → ℕ → (simple : Bool) → List ℕ
margin_and_indicator Item lead column _ = margin lead column ++ codes "-"
margin_and_indicator Key lead column true = margin lead column
margin_and_indicator Key lead column false = margin lead column ++ codes "?"
margin_and_indicator Value lead column _ = []
margin_and_indicator FarValue lead column _ = margin lead column ++ codes ":"

-- where a part stands
abbrev pub part_place : Awaits → ℕ → (simple : Bool) → Place
part_place Item column _ = item_place column
part_place Key column true = key_place column
part_place Key column false = far_place column
part_place Value column _ = value_place column
part_place FarValue column _ = far_place column

-- what a collection awaits behind a part
abbrev pub next_awaits : Awaits → (simple : Bool) → Awaits
next_awaits Item _ = Item
next_awaits Key true = Value
next_awaits Key false = FarValue
next_awaits Value _ = Key
next_awaits FarValue _ = Key

-- a collection as it is once a part of it has begun
abbrev pub part_begun : Open → (simple : Bool) → Open
part_begun o simple = record { awaits = next_awaits o.awaits simple; column = o.column; lead = Fresh }

-- once a node has begun, and its place; none where no node may stand
abbrev pub begun_from : List ℕ → (first : Bool) → LayoutState → (simple : Bool) → Option (Laid × Place)
begun_from out first before_root simple =
    Some (record { out = out; first = first; state = within [] }, root_place (root_lead first))
begun_from out first (within (o ∷ outer)) simple =
    Some (
      record {
        out = out ++ margin_and_indicator o.awaits o.lead o.column simple;
        first = first;
        state = within (part_begun o simple ∷ outer);
      },
      part_place o.awaits o.column simple,
    )
begun_from out first (within []) simple = None
begun_from out first before_stream simple = None
begun_from out first between_documents simple = None
begun_from out first after_stream simple = None

-- the same of all that a layout holds
abbrev pub begun : Laid → (simple : Bool) → Option (Laid × Place)
begun s simple = begun_from s.out s.first s.state simple

-- with a text more
abbrev pub with_text : Laid → List ℕ → Laid
with_text s text = record { out = s.out ++ text; first = s.first; state = s.state }

-- with a node more
abbrev pub with_node_text : Laid → EmitNode → Option Laid
with_node_text s n = option_map (λ b. with_text b.0 (node_text b.1 n)) (begun s (is_simple_key n))

-- the column of the parts of a collection
abbrev pub parts_column : Awaits → Place → Lead → ℕ
parts_column Item place lead = items_column place lead
parts_column _ place lead = place.column

-- with a collection inside the innermost open one
abbrev pub pushed : Open → LayoutState → LayoutState
pushed o (within outer) = within (o ∷ outer)
pushed o _ = within (o ∷ [])

-- with a collection opened in its place
abbrev pub with_collection : (tag : List ℕ) → Awaits → Laid → Place → Laid
with_collection tag awaits s place = record {
  out = s.out ++ tag_in_line place.lead tag;
  first = s.first;
  state = pushed (record {
    awaits = awaits;
    column = parts_column awaits place (behind_tag place.lead tag);
    lead = behind_tag place.lead tag;
  }) s.state;
}

-- with a collection opened that has parts
abbrev pub with_open : Laid → (tag : List ℕ) → Awaits → Option Laid
with_open s tag awaits = option_map (λ b. with_collection tag awaits b.0 b.1) (begun s false)

-- the end of a sequence or of a mapping ends a collection that awaits this
abbrev pub closes : Awaits → Awaits → Bool
closes Item Item = true
closes Key Key = true
closes _ _ = false

-- in a state, or in none where that may not be
abbrev pub in_state_if : Bool → Laid → LayoutState → Option Laid
in_state_if true s state = Some (record { out = s.out; first = s.first; state = state })
in_state_if false s state = None

-- with the innermost open collection closed
abbrev pub closed_in : Awaits → Laid → LayoutState → Option Laid
closed_in end s (within (o ∷ outer)) = in_state_if (closes end o.awaits) s (within outer)
closed_in end s _ = None

-- with a stream begun
abbrev pub stream_begun : Laid → LayoutState → Option Laid
stream_begun s before_stream = in_state_if true s between_documents
stream_begun s _ = None

-- with a stream ended
abbrev pub stream_ended : Laid → LayoutState → Option Laid
stream_ended s between_documents = in_state_if true s after_stream
stream_ended s _ = None

-- with a document begun
abbrev pub document_begun : Laid → LayoutState → Option Laid
document_begun s between_documents =
    Some (record { out = s.out ++ document_mark s.first; first = s.first; state = before_root })
document_begun s _ = None

-- with a document ended
abbrev pub document_ended : Laid → LayoutState → Option Laid
document_ended s (within []) = Some (record { out = s.out; first = false; state = between_documents })
document_ended s _ = None

-- with an event more that is no start of an empty collection
abbrev pub step : Laid → PlainEmit → Option Laid
step s emit_stream_start = stream_begun s s.state
step s emit_stream_end = stream_ended s s.state
step s emit_document_start = document_begun s s.state
step s emit_document_end = document_ended s s.state
step s (emit_scalar tag text style) = with_node_text s (emit_scalar_node tag text style)
step s (emit_sequence_start tag) = with_open s (tag_or_empty tag) Item
step s emit_sequence_end = closed_in Item s s.state
step s (emit_mapping_start tag) = with_open s (tag_or_empty tag) Key
step s emit_mapping_end = closed_in Key s s.state

-- the text, where the stream has ended
abbrev pub finished : List ℕ → LayoutState → Option (List ℕ)
finished out after_stream = Some out
finished out _ = None

-- the text once the rest of the events is printed, unless one of them may not stand where it does
abbrev pub printed_from : Option Laid → List PlainEmit → Option (List ℕ)
printed_from None es = None
printed_from (Some s) [] = finished s.out s.state
printed_from (Some s) (emit_sequence_start tag ∷ emit_sequence_end ∷ es) =
    printed_from (with_node_text s (emit_sequence_node tag no_emit_nodes)) es
printed_from (Some s) (emit_mapping_start tag ∷ emit_mapping_end ∷ es) =
    printed_from (with_node_text s (emit_mapping_node tag no_emit_pairs)) es
printed_from (Some s) (e ∷ es) = printed_from (step s e) es

-- the event is the end of a sequence
abbrev pub is_sequence_end : PlainEmit → Bool
is_sequence_end emit_sequence_end = true
is_sequence_end _ = false

-- the event is the end of a mapping
abbrev pub is_mapping_end : PlainEmit → Bool
is_mapping_end emit_mapping_end = true
is_mapping_end _ = false

-- the empty collection that begins with an event, and what follows it, where the next event is such an end
abbrev pub hollow_at : PlainEmit → (behind : List PlainEmit) → (sequence_ends mapping_ends : Bool)
    → Option (EmitNode × List PlainEmit)
hollow_at (emit_sequence_start tag) behind true _ = Some (emit_sequence_node tag no_emit_nodes, behind)
hollow_at (emit_mapping_start tag) behind _ true = Some (emit_mapping_node tag no_emit_pairs, behind)
hollow_at _ behind _ _ = None

-- an empty collection at the head of the events, and what follows it
abbrev pub hollow : PlainEmit → List PlainEmit → Option (EmitNode × List PlainEmit)
hollow e [] = None
hollow e (next_event ∷ behind) = hollow_at e behind (is_sequence_end next_event) (is_mapping_end next_event)

-- a step is taken, or refused where none may be, or memory runs out
abbrev pub Steps : {A : Type 0} → Option Laid → Laid → Result A Stop → Type 0
Steps wanted new (Ok _) = wanted ≡ Some new
Steps wanted new (Err OutOfPlace) = wanted ≡ None
Steps wanted new (Err Memory) = Unit {0}

-- the same of a node that begins, where the answer is its place
abbrev pub NodeBegins : Option (Laid × Place) → Laid → Result Place Stop → Type 0
NodeBegins wanted new (Ok place) = wanted ≡ Some (new, place)
NodeBegins wanted new (Err OutOfPlace) = wanted ≡ None
NodeBegins wanted new (Err Memory) = Unit {0}
