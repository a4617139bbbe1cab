-- What the documents of a whole stream are, by the trees of the stream.
use Rattle.std.specs.Prelude.{◌≡◌, ℕ, List, [], ◌∷◌, length, slice_get, Option, Some, None}
use Rattle.yaml_base.specs.DocTree.{DocNode, IsTreeOf}
use Rattle.yaml_base.specs.PlainDocEvent.{PlainDocEvent}
use Rattle.yaml_base.specs.PlainDocument.{PlainDocument}
use Rattle.yaml_base.specs.PlainEvent.{PlainEvent}
use Rattle.yaml_base.specs.PlainFault.{PlainFault}
use Rattle.yaml_base.specs.Position.{Position}
use Rattle.yaml_base.specs.Tree.{Node}
use Rattle.yaml_base.specs.declared.error.Cause.{Cause}
use Rattle.yaml_base.specs.declared.error.Cause.TheVariants.{UnknownAnchor, Parser}
use Rattle.yaml_load.specs.Documents.{Input, Find, void_document, becomes, anchors_in, body, find_in}
use Rattle.yaml_load.specs.Resolved.{resolved}

-- the document of a node: where all its aliases have targets the resolved tree is its tree, else it ends at an unknown
-- anchor
abbrev pub IsDocumentOf : Option DocNode → PlainDocument → Type 0
IsDocumentOf (Some tree) document = IsTreeOf document tree
IsDocumentOf None document = (mark : Position) × (document.ending ≡ Some (UnknownAnchor mark))

-- one document for each root, in order
abbrev pub AreDocumentsOfRoots : List Node → List PlainDocument → Type 0
AreDocumentsOfRoots [] [] = Unit {0}
AreDocumentsOfRoots (root ∷ roots) (document ∷ documents) =
    IsDocumentOf (resolved root) document × AreDocumentsOfRoots roots documents
AreDocumentsOfRoots _ _ = ⊥

-- the documents of a stream with these roots; where there is none, one that stands for nothing, with the mark of the
-- last event
abbrev pub AreStreamDocuments : List Node → (last : Option Position) → List PlainDocument → Type 0
AreStreamDocuments [] last documents = (mark : Position) × (last ≡ Some mark) × (documents ≡ void_document mark ∷ [])
AreStreamDocuments (root ∷ roots) last documents = AreDocumentsOfRoots (root ∷ roots) documents

-- a document that nothing cut off has a tree
abbrev pub HasTree : PlainDocument → Type 0
HasTree document = document.ending ≡ None → (tree : DocNode) × IsTreeOf document tree

-- nothing cut the document off, or an unknown anchor did, or the parser's fault
abbrev pub IsEnding : Option Cause → Type 0
IsEnding None = Unit {0}
IsEnding (Some (UnknownAnchor mark)) = Unit {0}
IsEnding (Some (Parser fault)) = Unit {0}
IsEnding (Some _) = ⊥

-- a document of a stream has a tree where nothing cut it off, and nothing cuts it off but an unknown anchor or the
-- parser's fault
pub record IsDocument (document : PlainDocument) : Type 0 where
  pub tree : HasTree document
  pub ending : IsEnding document.ending

-- the parser's fault did not cut the document off: nothing did, or an unknown anchor
abbrev pub IsBeforeFault : Option Cause → Type 0
IsBeforeFault None = Unit {0}
IsBeforeFault (Some (UnknownAnchor mark)) = Unit {0}
IsBeforeFault (Some _) = ⊥

-- the fault cut the document off, or an unknown anchor before it
abbrev pub IsAtFault : PlainFault → Option Cause → Type 0
IsAtFault fault (Some (UnknownAnchor mark)) = Unit {0}
IsAtFault fault (Some (Parser found)) = found ≡ fault
IsAtFault fault _ = ⊥

-- the fault comes in the last document, and in no other
abbrev pub EndAtFault : PlainFault → List PlainDocument → Type 0
EndAtFault fault [] = ⊥
EndAtFault fault (document ∷ []) = IsAtFault fault document.ending
EndAtFault fault (document ∷ (next ∷ documents)) = IsBeforeFault document.ending × EndAtFault fault (next ∷ documents)

-- Each event of the document is what the event at its place behind the document's start becomes, and has its mark.
-- Where an unknown anchor cut the document off, the event behind those becomes none, and its mark is the anchor's.
pub record HoldsFront (find : Find) (start : Input) (document : PlainDocument) : Type 0 where
  pub events : (place : ℕ) (event : PlainDocEvent) (mark : Position)
      → slice_get document.events place ≡ Some (event, mark)
      → (source : PlainEvent) × (slice_get start place ≡ Some (source, mark)) × (becomes find place source ≡ Some event)
  pub anchor : (mark : Position) → document.ending ≡ Some (UnknownAnchor mark)
      → (source : PlainEvent) × (slice_get start (length document.events) ≡ Some (source, mark))
      × (becomes find (length document.events) source ≡ None)

-- each document behind a start holds the front of what follows it
abbrev pub HoldFronts : List Input → List PlainDocument → Type 0
HoldFronts [] documents = Unit {0}
HoldFronts (start ∷ starts) [] = ⊥
HoldFronts (start ∷ starts) (document ∷ documents) =
    HoldsFront (find_in (anchors_in 0 (body start))) start document × HoldFronts starts documents
