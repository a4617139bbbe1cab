-- The room that a caller gives, as far as it is taken.
use Rattle.std.specs.Prelude.{◌≡◌, ℕ, ◌≤◌, ◌==◌, if◌then◌else◌, List, ◌++◌, ◌∷◌, [], length, take, Option, None, Some}
use Rattle.yaml_c.specs.Rows.{part}
use Rattle.yaml_c.specs.declared.rows.YamlRow.{YamlRow}

-- At most so many bytes were added behind those that there were, as long as there is room.
pub record Grows (old : List ℕ) (before : ℕ) (new : List ℕ) (now : ℕ) : Type 0 where
  pub room : now ≤ length new → before ≤ length old
  pub added : now ≤ length new → (text : List ℕ) × (take now new ≡ take before old ++ text)

-- this part of the bytes that are taken is the text, whatever comes behind them
abbrev pub HasText : (bytes : List ℕ) → (taken at len : ℕ) → List ℕ → Type 0
HasText bytes taken at len text =
    taken ≤ length bytes → (more : List ℕ) → part (take taken bytes ++ more) at len ≡ text

-- this part of the source, or of the bytes that are taken, is the text, whatever comes behind them
abbrev pub HasTextIn : (source bytes : List ℕ) → (taken in_source at len : ℕ) → List ℕ → Type 0
HasTextIn source bytes taken in_source at len text = taken ≤ length bytes
    → (more : List ℕ) → part (if in_source == 1 then source else take taken bytes ++ more) at len ≡ text

-- there is no tag, by its number, or this part of the bytes that are taken is the tag, whatever comes behind them
abbrev pub HasTag : (bytes : List ℕ) → (taken number at len : ℕ) → Option (List ℕ) → Type 0
HasTag bytes taken number at len tag = taken ≤ length bytes
    → (more : List ℕ) → (if number == 0 then None else Some (part (take taken bytes ++ more) at len)) ≡ tag

-- one row was added behind those that there were, as long as there is room
pub record IsPut (old : List YamlRow) (before : ℕ) (new : List YamlRow) (now : ℕ) (row : YamlRow) : Type 0 where
  pub room : now ≤ length new → before ≤ length old
  pub added : now ≤ length new → take now new ≡ take before old ++ row ∷ []
