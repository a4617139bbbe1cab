-- What the rows in a room show.
use Rattle.std.specs.Prelude.{◌≡◌, ℕ, ◌≤◌, List, [], ◌∷◌, ◌++◌, length, map, take, Option, None, Some}
use Rattle.yaml_base.specs.ErrorText.{error_text}
use Rattle.yaml_base.specs.PlainDocEvent.{PlainDocEvent}
use Rattle.yaml_base.specs.PlainDocument.{PlainDocument}
use Rattle.yaml_base.specs.Position.{Position}
use Rattle.yaml_base.specs.declared.error.Cause.{Cause}
use Rattle.yaml_c.specs.Links.{document_reach}
use Rattle.yaml_c.specs.RowDocuments.{behind_document, fault_place, shown_each}
use Rattle.yaml_c.specs.Rows.{Shown, ShownEvent, begins, ends, holds, is_cut, shown_by}
use Rattle.yaml_c.specs.declared.rows.YamlRow.{YamlRow}
use Rattle.yaml_load.specs.Ends.{ends_of}

-- the row shows this, whatever comes behind the bytes that are taken
abbrev pub IsRowOf : (source bytes : List ℕ) → (taken : ℕ) → YamlRow → Shown → Type 0
IsRowOf source bytes taken row shown = taken ≤ length bytes
    → (more : List ℕ) → shown_by source (take taken bytes ++ more) row ≡ shown

-- rows and bytes, and how many of both are taken
pub record Room : Type 0 where
  pub rows : List YamlRow
  pub bytes : List ℕ
  pub used : ℕ
  pub taken : ℕ

-- where there is room for all of them, the rows that are taken show this, whatever comes behind the bytes
pub record Shows (source : List ℕ) (room : Room) (shown : List Shown) : Type 0 where
  pub rows : room.used ≤ length room.rows → room.taken ≤ length room.bytes
      → (more : List ℕ) → map (shown_by source (take room.taken room.bytes ++ more)) (take room.used room.rows) ≡ shown

-- the rows show this behind what they showed before, and where there is room for all there was room for that
pub record Adds (source : List ℕ) (old new : Room) (shown : List Shown) : Type 0 where
  pub rows : new.used ≤ length new.rows → old.used ≤ length old.rows
  pub bytes : new.taken ≤ length new.bytes → old.taken ≤ length old.bytes
  pub behind : (before : List Shown) → Shows source old before → Shows source new (before ++ shown)

-- events of a document
abbrev pub all_held : List (ShownEvent × Position) → List Shown
all_held events = map (λ e. holds e.0 e.1) events

-- events of a document that begins in row `at`, and where the collections end that begin with them
abbrev pub shown_events : (at : ℕ) → List (PlainDocEvent × Position) → (closes : List ℕ) → List Shown
shown_events at events closes = all_held (shown_each at events closes)

-- the end of a document, or the fault that cuts it off
abbrev pub shown_ending : Option Cause → Shown
shown_ending None = ends
shown_ending (Some cause) = is_cut (error_text cause) (fault_place cause)

-- what a document that begins in row `at` is shown as, by its events, where collections of it end, and its ending
abbrev pub parts_shown : (at : ℕ) → List (PlainDocEvent × Position) → (closes : List ℕ) → Option Cause → List Shown
parts_shown at events closes ending =
    begins (document_reach at (length events)) ∷ (shown_events at events closes ++ shown_ending ending ∷ [])

-- what a document that begins in row `at` is shown as
abbrev pub shown_of : (at : ℕ) → PlainDocument → List Shown
shown_of at d = parts_shown at d.events (ends_of (map (λ e. e.0) d.events)) d.ending

-- what documents are shown as, the first of which begins in row `at`
abbrev pub all_shown : (at : ℕ) → List PlainDocument → List Shown
all_shown at [] = []
all_shown at (d ∷ documents) = shown_of at d ++ all_shown (behind_document at d) documents

-- the rows in a room show the first of these documents, and these are left
pub record ShowsFirst (source : List ℕ) (room : Room) (all left : List PlainDocument) : Type 0 where
  pub handed : List PlainDocument
  pub rest : handed ++ left ≡ all
  pub shows : Shows source room (all_shown 0 handed)

-- where there is room for all of them, the rows in a room show these documents
abbrev pub ShowsAll : (source : List ℕ) → Room → List PlainDocument → Type 0
ShowsAll source room documents = Shows source room (all_shown 0 documents)
