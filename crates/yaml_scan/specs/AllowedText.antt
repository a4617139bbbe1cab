-- Which bytes may be a text.
use Rattle.std.specs.Prelude.{◌≡◌, ℕ, ◌+◌, ◌<◌, ◌≤◌, Bool, ◌||◌, ◌==◌, IsTrue, List, length, take}
use Rattle.std.specs.Int.{is_in_range}
use Rattle.std.specs.List.{list_all}
use Rattle.std.specs.Str.{IsUtf8, chars}
use Rattle.yaml_base.specs.declared.fault.FaultKind.{FaultKind}
use Rattle.yaml_base.specs.declared.fault.FaultKind.TheVariants.{Reader}

-- the character of this code is a tab, a line break, or one that is printed
abbrev pub is_allowed : ℕ → Bool
is_allowed code =
    code == 0x09 || (code == 0x0A || (code == 0x0D || (is_in_range 0x20 0x7E code || (code == 0x85
    || (is_in_range 0xA0 0xD7FF code || (is_in_range 0xE000 0xFFFD code || is_in_range 0x10000 0x10FFFF code))))))

-- the bytes are UTF-8, and each of their characters is allowed
abbrev pub IsAllowed : List ℕ → Type 0
IsAllowed text = IsUtf8 text × IsTrue (list_all is_allowed (chars text))

-- the first n bytes are the longest beginning of the bytes that is allowed, and more bytes follow
pub record IsAllowedUpTo (text : List ℕ) (n : ℕ) : Type 0 where
  pub short : n < length text
  pub front : IsAllowed (take n text)
  pub longest : (m : ℕ) → n < m → IsAllowed (take m text) → ⊥

-- a fault of this kind, at the byte of this index, is the reader's, and lies within the first character that is none or
-- is not allowed
abbrev pub IsOfReader : List ℕ → FaultKind → ℕ → Type 0
IsOfReader text kind offset =
    (kind ≡ Reader) × ((n : ℕ) × IsAllowedUpTo text n × (n ≤ offset) × (offset < n + 4) × (offset < length text))
