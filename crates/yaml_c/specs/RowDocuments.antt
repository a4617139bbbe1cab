-- The documents that rows show.
use Rattle.std.specs.Prelude.{ℕ, ◌+◌, List, [], ◌∷◌, length, map, Option, None, Some, unwrap_or, option_map}
use Rattle.std.specs.List.{zip}
use Rattle.yaml_base.specs.CausePlace.{cause_mark}
use Rattle.yaml_base.specs.ErrorText.{error_text}
use Rattle.yaml_base.specs.PlainDocEvent.{PlainDocEvent, a_scalar}
use Rattle.yaml_base.specs.PlainDocument.{PlainDocument}
use Rattle.yaml_base.specs.PlainEvent.{PlainScalar}
use Rattle.yaml_base.specs.Position.{Position}
use Rattle.yaml_base.specs.declared.error.Cause.{Cause}
use Rattle.yaml_c.specs.Links.{document_reach, event_link}
use Rattle.yaml_c.specs.Numbers.{event_numbers}
use Rattle.yaml_c.specs.Rows.{Reach, Shown, ShownEvent, begins, ends, holds, is_cut, shown_by}
use Rattle.yaml_c.specs.declared.rows.YamlRow.{YamlRow}
use Rattle.yaml_load.specs.Ends.{ends_of}

-- what is in a document: its events with their places, with what its scalars are and with what they link to, and the
-- text and the place of the fault that cut it off, if one did
pub record ShownContent : Type 0 where
  pub events : List (ShownEvent × Position)
  pub fault : Option (List ℕ × Position)

-- a document: how far readings of it go, and what is in it
pub record ShownDocument : Type 0 where
  pub reach : Reach
  pub content : ShownContent

-- nothing is left of a document
abbrev pub no_more : ShownContent
no_more = record { events = []; fault = None }

-- what is shown, in front of what is left of a document and of the documents behind it
abbrev pub in_front : Shown → ShownContent × List ShownDocument → ShownContent × List ShownDocument
in_front (begins reach) rest = (no_more, (record { reach = reach; content = rest.0 }) ∷ rest.1)
in_front (holds event place) rest = (record { events = (event, place) ∷ rest.0.events; fault = rest.0.fault }, rest.1)
in_front ends rest = (no_more, rest.1)
in_front (is_cut text place) rest = (record { events = []; fault = Some (text, place) }, rest.1)

-- what is left of a document, and the documents behind it
abbrev pub read_shown : List Shown → ShownContent × List ShownDocument
read_shown [] = (no_more, [])
read_shown (s ∷ shown) = in_front s (read_shown shown)

-- the documents that rows show, in order
abbrev pub documents_of_rows : List YamlRow → (texts source : List ℕ) → List ShownDocument
documents_of_rows rows texts source = (read_shown (map (shown_by source texts) rows)).1

-- a scalar, of which the slice of the source is not told
abbrev pub unsourced : PlainScalar → PlainScalar
unsourced s = record { anchor = s.anchor; tag = s.tag; text = s.text; style = s.style; source = None }

-- an event, likewise
abbrev pub unsourced_event : PlainDocEvent → PlainDocEvent
unsourced_event (a_scalar s) = a_scalar (unsourced s)
unsourced_event other = other

-- an event as rows can show it, of a document that begins in row `at`; if it begins a collection, the event `end` ends
-- that
abbrev pub shown_event : (at end : ℕ) → PlainDocEvent → ShownEvent
shown_event at end e = record {
  event = unsourced_event e;
  numbers = event_numbers e;
  link = event_link at end e;
}

-- events of such a document with their places, and where the collections close that begin with them
abbrev pub shown_each : (at : ℕ) → List (PlainDocEvent × Position) → (closes : List ℕ) → List (ShownEvent × Position)
shown_each at events closes = map (λ e. (shown_event at e.1 e.0.0, e.0.1)) (zip events closes)

-- where a fault is, or the start
abbrev pub fault_place : Cause → Position
fault_place cause = unwrap_or (cause_mark cause) (record { index = 0; line = 0; column = 0 })

-- a document that begins in row `at` as rows can show it: its scalars without their sources, and of its fault the text
-- and the place
abbrev pub shown_document : (at : ℕ) → PlainDocument → ShownDocument
shown_document at d = record {
  reach = document_reach at (length d.events);
  content = record {
    events = shown_each at d.events (ends_of (map (λ e. e.0) d.events));
    fault = option_map (λ cause. (error_text cause, fault_place cause)) d.ending;
  };
}

-- the row behind a document that begins in row `at`: a row for each event, one in front of them and one behind them
abbrev pub behind_document : (at : ℕ) → PlainDocument → ℕ
behind_document at d = at + length d.events + 2

-- documents, the first of which begins in row `at`, as rows can show them
abbrev pub shown_documents : (at : ℕ) → List PlainDocument → List ShownDocument
shown_documents at [] = []
shown_documents at (d ∷ documents) = shown_document at d ∷ shown_documents (behind_document at d) documents
