-- Which documents a text begins with, while its events are read.
use Rattle.std.specs.Prelude.{◌≡◌, List, None, false, ℕ, map}
use Rattle.yaml_base.specs.MarkedEvents.{plain_marked}
use Rattle.yaml_base.specs.PlainDocument.{PlainDocument}
use Rattle.yaml_base.specs.Position.{Position}
use Rattle.yaml_base.specs.declared.event.Event.{Event}
use Rattle.yaml_documents.specs.TextEvents.{AreEventsOf}
use Rattle.yaml_read.specs.Documents.{after_starts, document_from, is_open_after}

-- some events that a parser handed out of the text are cut into these documents, and no document is open behind them
pub record AreFirstDocumentsOf (text : List ℕ) (documents : List PlainDocument) : Type 0 where
  pub events : List (Event × Position)
  pub of_text : AreEventsOf text events
  pub closed : is_open_after false (plain_marked events) ≡ false
  pub cut : documents ≡ map (document_from None) (after_starts false (plain_marked events))
