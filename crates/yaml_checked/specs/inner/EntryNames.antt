-- The names of entries, by their numbers.
use Rattle.std.specs.Prelude.{◌≢◌, ◌<◌, ◌≤◌, All, List, None, get_or, length, ℕ}
use Rattle.yaml_tape.specs.declared.entry.Entry.{Entry}
use Rattle.yaml_tape.specs.declared.entry.Names.{Names}

-- each entry has no names, or a greater number than this one
abbrev pub AreBehind : ℕ → List Entry → Type 0
AreBehind number entries = All (λ (e : Entry). e.names ≢ 0 → number < e.names) entries

-- each entry has no names, or a greater number than all before it
abbrev pub NamesRise : List Entry → Type 0
NamesRise entries =
    (i j : ℕ) → (d : Entry) → i < j → j < length entries → (get_or entries j d).names ≢ 0
    → (get_or entries i d).names < (get_or entries j d).names

-- so many entries do so, and none of them has a greater number than this one
pub record RiseTo (entries : List Entry) (count last : ℕ) : Type 0 where
  pub rise : (i j : ℕ) → (d : Entry) → i < j → j < count → (get_or entries j d).names ≢ 0
      → (get_or entries i d).names < (get_or entries j d).names
  pub bound : (i : ℕ) → (d : Entry) → i < count → (get_or entries i d).names ≤ last

-- neither an anchor nor a tag
abbrev pub neither : Names
neither = record { anchor = None; tag = None }
