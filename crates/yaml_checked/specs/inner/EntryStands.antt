-- An entry of a tape that can be an event of the tape's text.
use Rattle.std.specs.List.Sorted.{IsNonDecreasingBy}
use Rattle.std.specs.Prelude.{◌≡◌, ◌≢◌, ◌-◌, ◌≤◌, All, List, None, drop, length, slice_range, true, ℕ}
use Rattle.yaml_base.specs.LineBreaks.{IsOneLine}
use Rattle.yaml_base.specs.Places.{place_of}
use Rattle.yaml_base.specs.declared.event.ScalarStyle.TheVariants as style
use Rattle.yaml_tape.specs.OnTape.{anchor_in, names_at, tag_in, text_on}
use Rattle.yaml_tape.specs.declared.entry.Entry.{Entry}
use Rattle.yaml_tape.specs.declared.entry.EntryKind.TheVariants as kind
use Rattle.yaml_tape.specs.declared.tape.Tape.{Tape}

-- the source of the entry
abbrev pub source_on : Tape → Entry → List ℕ
source_on t e = slice_range t.text.now e.index e.end

abbrev pub its_text : Tape → Entry → List ℕ
its_text t e = text_on t.text.now t.arena.items e

-- where the source has no line break, the text is the last part of it, and without a name all of it
pub record SaysItsText (t : Tape) (e : Entry) : Type 0 where
  pub rest : IsOneLine (source_on t e)
      → its_text t e ≡ drop (length (source_on t e) - length (its_text t e)) (source_on t e)
  pub whole : IsOneLine (source_on t e) → anchor_in (names_at t.names.items e.names) ≡ None
      → tag_in (names_at t.names.items e.names) ≡ None → its_text t e ≡ source_on t e

-- the source lies in the text, and that of a plain scalar says what the scalar is
pub record ScalarStands (t : Tape) (e : Entry) : Type 0 where
  pub forward : e.index ≤ e.end
  pub within : e.end ≤ length t.text.now
  pub says : e.style ≡ style.Plain → SaysItsText t e

-- a scalar stands so, and an event on the line behind the last stands at the end of a text that ends amid a line
pub record EntryStands (t : Tape) (e : Entry) : Type 0 where
  pub scalar : e.kind ≡ kind.Scalar → ScalarStands t e
  pub behind : e.late ≡ true → e.index ≡ length t.text.now
  pub amid : e.late ≡ true → (place_of t.text.now (length t.text.now)).1 ≢ 0

-- so does each of the first entries, and none begins before the one before it, nor behind an index
pub record EntriesStand (t : Tape) (index : ℕ) (entries : List Entry) : Type 0 where
  pub stand : All (EntryStands t) entries
  pub rise : IsNonDecreasingBy (λ e. e.index) entries
  pub last : All (λ e. e.index ≤ index) entries
