-- Streams by the documents that are still to be read.
use Rattle.std.specs.Prelude.{◌≡◌, List, [], ◌∷◌, map, Bool, true, false, if◌then◌else◌, Option}
use Rattle.std.specs.Iterator.{YieldsFirst}
use Rattle.yaml_base.specs.PlainDocument.{PlainDocument}

-- a stream, or one document of one: its documents that were not handed out, and whether one was asked for
pub record PlainStream : Type 0 where
  pub documents : List PlainDocument
  pub is_document : Bool
  pub iterated : Bool

-- one document of a stream, to be read on its own
abbrev pub document_alone : PlainDocument → PlainStream
document_alone document = record { documents = document ∷ []; is_document = true; iterated = false }

-- what iterating a stream still gives: its documents, each on its own; a document on its own gives nothing more
abbrev pub items_left : PlainStream → List PlainStream
items_left stream = if stream.is_document then [] else map document_alone stream.documents

-- The step of iterating a stream: the first document that is left, on its own, or none where none is left. From then
-- on a stream counts as iterated; a document on its own stays as it is.
pub record GoesOn (old : PlainStream) (given : Option PlainStream) (new : PlainStream) : Type 0 where
  pub yields : YieldsFirst items_left old given new
  pub kind : new.is_document ≡ old.is_document
  pub stream : old.is_document ≡ false → new.iterated ≡ true
  pub document : old.is_document ≡ true → new ≡ old
