-- Rows that are not printed, and faults that have no text.
use Rattle.std.specs.Prelude.{◌≡◌, ◌⊎◌, ◌≤◌, ◌<◌, ℕ, ◌+◌, ◌^◌, Bool, true, ◌==◌, ◌&&◌, ◌||◌, nat_lt, if◌then◌else◌}
use Rattle.std.specs.Prelude.{List, ◌∷◌, ◌++◌, length, IsUtf8}
use Rattle.yaml_base.specs.EmitEvents.{PlainEmit}
use Rattle.yaml_base.specs.EmitTree.{IsEmitStream}
use Rattle.yaml_c.specs.RowEvents.{AreEach, AreEventsOf, is_number}
use Rattle.yaml_c.specs.Rows.{part}
use Rattle.yaml_c.specs.declared.rows.YamlRow.{YamlRow}

-- so many bytes stand at a place of these bytes, and are a text
abbrev pub IsTextThere : List ℕ → (at len : ℕ) → Type 0
IsTextThere bytes at len = (at + len ≤ length bytes) × IsUtf8 (part bytes at len)

-- the text of a row stands where it says
abbrev pub HasText : (source texts : List ℕ) → YamlRow → Type 0
HasText source texts row = IsTextThere (if row.text_in_source == 1 then source else texts) row.text_at row.text_len

-- a row has no tag, or its tag stands where it says
abbrev pub HasTag : (texts : List ℕ) → YamlRow → Type 0
HasTag texts row = (row.tag_kind ≡ 0) ⊎ IsTextThere texts row.tag_at row.tag_len

-- rows of this kind are scalars that are written
abbrev pub is_written_scalar : (kind : ℕ) → Bool
is_written_scalar kind = is_number kind || kind == 5

-- rows of this kind are written: such scalars, and what begins or ends
abbrev pub is_written : (kind : ℕ) → Bool
is_written kind = is_written_scalar kind || (nat_lt 9 kind && nat_lt kind 16)

-- the row may be written: by its kind, with its tag, and if it is a string with its text
pub record IsWritten (source texts : List ℕ) (row : YamlRow) : Type 0 where
  pub kind : is_written row.kind ≡ true
  pub tag : HasTag texts row
  pub text : row.kind ≡ 5 → HasText source texts row

-- the first row that may not be written stands in this place; or all may, and their events are no stream
pub data IsRefusedAt (rows : List YamlRow) (source texts : List ℕ) (place : ℕ) : Type 0 where
  not_written : (before : List YamlRow) (row : YamlRow) (after : List YamlRow) (events : List PlainEmit)
      → rows ≡ before ++ row ∷ after → length before ≡ place → AreEach source texts before events
      → (IsWritten source texts row → ⊥) → IsRefusedAt rows source texts place
  no_stream : (events : List PlainEmit) → AreEventsOf rows source texts events → (IsEmitStream events → ⊥)
      → place ≤ length rows → IsRefusedAt rows source texts place

-- the numbers of a place are such that a fault can be told there
abbrev pub IsTellable : YamlRow → Type 0
IsTellable row = (row.line + 1 < 2 ^ 64) × (row.column + 1 < 2 ^ 64)

-- there is a fault with this number, at the place of a row, with these words and this path
pub record HasFault (number : ℕ) (place : YamlRow) (words path : List ℕ) : Type 0 where
  pub known : number < 8
  pub words_of : number < 2 → IsUtf8 words
  pub path_of : number ≡ 0 → IsUtf8 path
  pub place_of : (number ≡ 0) ⊎ (number ≡ 2) → IsTellable place
