-- The documents of an input: a list of events, each with its mark, and the parser's fault where there was one.
use Rattle.std.specs.Prelude.{ℕ, ◌+◌, ◌-◌, List, [], ◌∷◌, ◌++◌, map, length, slice_get, Bool, true, false, not}
use Rattle.std.specs.Prelude.{Option, Some, None, if◌then◌else◌, option_to_list}
use Rattle.std.specs.List.{list_any}
use Rattle.std.specs.Option.{option_map}
use Rattle.yaml_base.specs.Position.{Position}
use Rattle.yaml_base.specs.PlainEvent.{PlainEvent, document_start, document_end, alias, scalar}
use Rattle.yaml_base.specs.PlainEvent.{sequence_start, sequence_end, mapping_start, mapping_end}
use Rattle.yaml_base.specs.PlainFault.{PlainFault}
use Rattle.yaml_base.specs.Tree.{anchor_at, greatest_below}
use Rattle.yaml_base.specs.declared.error.Cause.{Cause}
use Rattle.yaml_base.specs.declared.error.Cause.TheVariants.{UnknownAnchor, Parser}
use Rattle.yaml_base.specs.PlainDocEvent.{PlainDocEvent, alias_to, a_scalar, sequence_begins, sequence_ends}
use Rattle.yaml_base.specs.PlainDocEvent.{mapping_begins, mapping_ends, a_void}
use Rattle.yaml_base.specs.PlainDocument.{PlainDocument}
use Rattle.yaml_load.specs.Resolved.{without_anchor}

-- events, each with its mark
abbrev pub Input : Type 0
Input = List (PlainEvent × Position)

-- a document begins
abbrev pub is_document_start : PlainEvent → Bool
is_document_start document_start = true
is_document_start _ = false

-- a document ends
abbrev pub is_document_end : PlainEvent → Bool
is_document_end document_end = true
is_document_end _ = false

-- what follows each start of a document; the flag says whether a document is open where the input begins
abbrev pub after_starts : Bool → Input → List Input
after_starts opened [] = []
after_starts false (e ∷ input) =
    if is_document_start e.0 then input ∷ after_starts true input else after_starts false input
after_starts true (e ∷ input) = after_starts (not (is_document_end e.0)) input

-- a document is open where the input ends
abbrev pub is_open_after : Bool → Input → Bool
is_open_after opened [] = opened
is_open_after false (e ∷ input) = is_open_after (is_document_start e.0) input
is_open_after true (e ∷ input) = is_open_after (not (is_document_end e.0)) input

-- what stands in front of the end of the document, and what behind it
abbrev pub body : Input → Input
body [] = []
body (e ∷ input) = if is_document_end e.0 then [] else e ∷ body input

abbrev pub behind_document : Input → Input
behind_document [] = []
behind_document (e ∷ input) = if is_document_end e.0 then input else behind_document input

-- the document ends
abbrev pub is_ended : Input → Bool
is_ended input = list_any (λ e. is_document_end e.0) input

-- the anchor of the node that begins with the event
abbrev pub anchor_of : PlainEvent → Option (List ℕ)
anchor_of (scalar s) = s.anchor
anchor_of (sequence_start anchor tag) = anchor
anchor_of (mapping_start anchor tag) = anchor
anchor_of _ = None

-- the anchors of the nodes that begin there, in order, each beside the place of its node
abbrev pub anchors_in : ℕ → Input → List (List ℕ × ℕ)
anchors_in place [] = []
anchors_in place (e ∷ input) = anchor_at (anchor_of e.0) place ++ anchors_in (place + 1) input

-- the number of the target of an alias, by its anchor and its own number
abbrev pub Find : Type 0
Find = List ℕ → ℕ → Option ℕ

-- targets among these anchors
abbrev pub find_in : List (List ℕ × ℕ) → Find
find_in anchors anchor place = greatest_below place anchor anchors

-- what an event that is part of a node becomes, unless it is an alias: the anchor is taken out
abbrev pub node_event : PlainEvent → Option PlainDocEvent
node_event (scalar s) = Some (a_scalar (without_anchor s))
node_event (sequence_start anchor tag) = Some (sequence_begins tag)
node_event sequence_end = Some sequence_ends
node_event (mapping_start anchor tag) = Some (mapping_begins tag)
node_event mapping_end = Some mapping_ends
node_event _ = None

-- what an event at a place becomes; nothing, where it is an unknown alias
abbrev pub becomes : Find → ℕ → PlainEvent → Option PlainDocEvent
becomes find place (alias anchor) = option_map alias_to (find anchor place)
becomes find place e = node_event e

-- an event in front of others, which end where it is missing
abbrev pub then_events :
    Option PlainDocEvent → Position → List (PlainDocEvent × Position) → List (PlainDocEvent × Position)
then_events None mark events = []
then_events (Some d) mark events = (d, mark) ∷ events

-- what the events in front of the first unknown alias become
abbrev pub known_events : Find → ℕ → Input → List (PlainDocEvent × Position)
known_events find place [] = []
known_events find place (e ∷ input) = then_events (becomes find place e.0) e.1 (known_events find (place + 1) input)

-- the mark, where an event is missing, else another
abbrev pub or_mark : Option PlainDocEvent → Position → Option Position → Option Position
or_mark None mark later = Some mark
or_mark (Some d) mark later = later

-- the mark of the first unknown alias
abbrev pub unknown_mark : Find → ℕ → Input → Option Position
unknown_mark find place [] = None
unknown_mark find place (e ∷ input) = or_mark (becomes find place e.0) e.1 (unknown_mark find (place + 1) input)

-- why a document is cut off, if it is: by the first unknown alias, or, where it has no end, by the parser's fault
abbrev pub ending_of : Option Position → Bool → Option PlainFault → Option Cause
ending_of (Some mark) ended fault = Some (UnknownAnchor mark)
ending_of None true fault = None
ending_of None false fault = option_map Parser fault

-- the document whose node's events, with their anchors taken out, have these anchors
abbrev pub document_of : List (List ℕ × ℕ) → Input → Bool → Option PlainFault → PlainDocument
document_of anchors events ended fault = record {
  events = known_events (find_in anchors) 0 events;
  ending = ending_of (unknown_mark (find_in anchors) 0 events) ended fault;
}

-- the document behind a start
abbrev pub document_from : Option PlainFault → Input → PlainDocument
document_from fault input = document_of (anchors_in 0 (body input)) (body input) (is_ended input) fault

-- the document of an empty stream
abbrev pub void_document : Position → PlainDocument
void_document mark = record { events = (a_void, mark) ∷ []; ending = None }

-- a document that the parser's fault leaves without events
abbrev pub failed_document : PlainFault → PlainDocument
failed_document fault = record { events = []; ending = Some (Parser fault) }

-- the mark of the last event
abbrev pub last_mark : Input → Option Position
last_mark input = option_map (λ e. e.1) (slice_get input (length input - 1))

-- the document of a stream in which none begins
abbrev pub void_documents : List Input → Option Position → List PlainDocument
void_documents [] end = map void_document (option_to_list end)
void_documents (start ∷ starts) end = []

-- the document of a stream without any, or of a parser's fault outside of the others
abbrev pub further_document : Input → Option PlainFault → List PlainDocument
further_document input (Some fault) = if is_open_after false input then [] else failed_document fault ∷ []
further_document input None = void_documents (after_starts false input) (last_mark input)

-- the documents, in order
abbrev pub documents_of : Input → Option PlainFault → List PlainDocument
documents_of input fault = map (document_from fault) (after_starts false input) ++ further_document input fault
