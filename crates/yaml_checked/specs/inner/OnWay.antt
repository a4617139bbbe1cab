-- What of a tape was not read yet.
use Rattle.std.specs.Prelude.{◌≡◌, ◌≢◌, ◌≤◌, ◌<◌, ◌-◌, ◌∷◌, ◌++◌, [], Bool, List, None, Option, Some, drop, false, length}
use Rattle.std.specs.Prelude.{slice_index, ℕ}
use Rattle.yaml_base.specs.PlainEvent.{PlainEvent, PlainScalar}
use Rattle.yaml_checked.specs.OfText.{AreAhead}
use Rattle.yaml_checked.specs.declared.rest.Rest.{Rest}
use Rattle.yaml_checked.specs.inner.EntryStands.{its_text, source_on}
use Rattle.yaml_grammar.specs.Documents.{Stands}
use Rattle.yaml_grammar.specs.Nodes.{Document, Marked, events_of}
use Rattle.yaml_tape.specs.OnTape.{anchor_in, event_by, marked_by, marked_of, names_at, tag_in}
use Rattle.yaml_tape.specs.declared.entry.Entry.{Entry}
use Rattle.yaml_tape.specs.declared.tape.Tape.{Tape}

-- the events of a tape from an entry on, each with its mark
abbrev pub marked_from : Tape → ℕ → List Marked
marked_from t place = marked_of t.text.now t.arena.items t.names.items (drop place t.entries.items)

-- the scalar of an entry with this anchor and this tag, and the one with its own
abbrev pub scalar_by : Tape → (anchor tag : Option (List ℕ)) → Entry → PlainScalar
scalar_by t anchor tag e = record {
  anchor = anchor;
  tag = tag;
  text = its_text t e;
  style = e.style;
  source = Some (source_on t e);
}

abbrev pub scalar_on : Tape → Entry → PlainScalar
scalar_on t e = scalar_by t (anchor_in (names_at t.names.items e.names)) (tag_in (names_at t.names.items e.names)) e

-- the source of an entry has no line feed, and does not say its text
pub record IsNotSaid (t : Tape) (e : Entry) (has_names : Bool) : Type 0 where
  pub line : (k : ℕ) → k < length (source_on t e) → slice_index (source_on t e) k ≢ 10
  pub apart : its_text t e ≡ drop (length (source_on t e) - length (its_text t e)) (source_on t e)
      → (has_names ≡ false → its_text t e ≡ source_on t e) → ⊥

-- the event of an entry, and the same with its mark
abbrev pub event_at : Tape → Entry → PlainEvent
event_at t e = event_by e.kind t.text.now t.arena.items t.names.items e

abbrev pub marked_at : Tape → Entry → Marked
marked_at t e = marked_by t.text.now t.arena.items t.names.items e

-- These documents stand in the text, and behind these events come those of the tape, and of the documents to be read.
pub record IsOnWay (documents : List Document) (before : List Marked) (r : Rest) : Type 0 where
  pub stand : Stands r.tape.text.now documents
  pub ahead : AreAhead r.tape.text.now documents (before ++ marked_from r.tape r.next) r.documents

-- the same, and where the tape has no more, none come
pub record IsFilled (documents : List Document) (before : List Marked) (r : Rest) : Type 0 where
  pub way : IsOnWay documents before r
  pub none : length r.tape.entries.items ≤ r.next → before ≡ events_of r.tape.text.now documents

-- the same of the tape and of the documents was not read yet
pub record IsAsFar (old new : Rest) : Type 0 where
  pub text : new.tape.text.now ≡ old.tape.text.now
  pub ahead : marked_from new.tape new.next ≡ marked_from old.tape old.next
  pub documents : new.documents ≡ old.documents

-- the next entry was read, or there is none
abbrev pub Comes : List Document → List Marked → Rest → Option Entry → Type 0
Comes documents before r None = IsOnWay documents before r × (before ≡ events_of r.tape.text.now documents)
Comes documents before r (Some e) = IsOnWay documents (before ++ marked_at r.tape e ∷ []) r
