-- What a tape holds: one document, and the value that is read of its node.
use Rattle.std.specs.Prelude.{ℕ, zero, suc, ◌≡◌, ◌+◌, List, [], ◌∷◌, length, Option, None, Some}
use Rattle.yaml_base.specs.PlainDocEvent.{PlainDocEvent, sequence_begins, sequence_ends, mapping_begins, mapping_ends}
use Rattle.yaml_documents.specs.OnlyDocument.{HasKind}
use Rattle.yaml_shape.specs.PlainData.{PlainData}
use Rattle.yaml_tape.specs.OnDocs.{doc_by}
use Rattle.yaml_tape.specs.declared.entry.Entry.{Entry}
use Rattle.yaml_tape.specs.declared.entry.EntryKind.{EntryKind}
use Rattle.yaml_tape.specs.declared.entry.EntryKind.TheVariants as kind
use Rattle.yaml_tape.specs.declared.entry.Names.{Names}
use Rattle.yaml_tape.specs.declared.tape.Tape.{Tape}
use Rattle.yaml_types.specs.NodeMeans.{NodeMeans}
use Rattle.yaml_types.specs.Start.{Start}
use Rattle.yaml_types.specs.Tables.{IsShapeIn}

-- ---- the events of a node, and what follows them
-- how many collections are open behind an event, where so many are before it; none where it is no event of a node, or
-- ends what is not open
abbrev pub opened : ℕ → Option PlainDocEvent → Option ℕ
opened k None = None
opened k (Some (sequence_begins tag)) = Some (suc k)
opened k (Some (mapping_begins tag)) = Some (suc k)
opened zero (Some sequence_ends) = None
opened zero (Some mapping_ends) = None
opened (suc k) (Some sequence_ends) = Some k
opened (suc k) (Some mapping_ends) = Some k
opened k (Some e) = Some k

-- the events go on where collections are open, and else these follow
abbrev pub goes_on : {X : Type 0} → Option ℕ → (ℕ → X) → X → X
goes_on None rest here = here
goes_on (Some zero) rest here = here
goes_on (Some (suc k)) rest here = rest (suc k)

-- what stands behind the event that closes the last of so many collections, or behind a node that is none
abbrev pub behind : ℕ → List (Option PlainDocEvent) → List (Option PlainDocEvent)
behind k [] = []
behind k (e ∷ es) = goes_on (opened k e) (λ more. behind more es) es

-- so many are open behind each entry of this kind
abbrev pub IsOpenAfter : EntryKind → (before after : ℕ) → Type 0
IsOpenAfter k before after = (text arena : List ℕ) (names : List Names) (e : Entry) → e.kind ≡ k
    → opened before (doc_by text arena names e) ≡ Some after

-- ---- one document
-- the tape is a stream of one document, which ends in the place
pub record IsOnlyNode (t : Tape) (end : ℕ) : Type 0 where
  pub stream_starts : HasKind t 0 kind.StreamStart
  pub document_starts : HasKind t 1 kind.DocumentStart
  pub document_ends : HasKind t end kind.DocumentEnd
  pub stream_ends : HasKind t (end + 1) kind.StreamEnd
  pub all : length t.entries.items ≡ end + 2

-- and the node of the document means, under the shape of a type and within so many nestings, data of which the value
-- is built
abbrev pub HoldsValue : (start : Start) → {T : Type 0} → (PlainData → T → Type 0) → Tape → (depth : ℕ) → T → Type 0
HoldsValue start built t depth x =
    (end : ℕ) × IsOnlyNode t end × NodeMeans (IsShapeIn start) built t 2 end depth x
