-- A stream of one document, or of several, as it is written.
use Rattle.std.specs.Prelude.{◌≡◌, ℕ, zero, suc, List, [], ◌∷◌, ◌++◌, length}
use Rattle.yaml_base.specs.EmitEvents.{PlainEmit, emit_stream_start, emit_stream_end, emit_document_start}
use Rattle.yaml_base.specs.EmitTree.{EmitNode, emit_document_events}
use Rattle.yaml_emit.specs.StreamTexts.{stream_text}

-- the events are a whole stream of one document
abbrev pub IsWrittenDocument : List PlainEmit → Type 0
IsWrittenDocument events =
    (root : EmitNode) × (events ≡ emit_stream_start ∷ (emit_document_events root ++ emit_stream_end ∷ []))

-- the text of so many documents
pub record IsTextOfDocuments (count : ℕ) (text : List ℕ) : Type 0 where
  pub roots : List EmitNode
  pub counted : length roots ≡ count
  pub printed : text ≡ stream_text roots

-- how many documents begin in the events
abbrev pub documents_begun : List PlainEmit → ℕ
documents_begun [] = zero
documents_begun (emit_document_start ∷ events) = suc (documents_begun events)
documents_begun (_ ∷ events) = documents_begun events
