-- Where a reader stands behind a gap, and in which column, in the words of the grammar.
use Rattle.std.specs.Prelude.{ℕ, ◌+◌, ◌-◌, ◌<◌, ◌≤◌, ◌≡◌, ◌==◌, ◌⊎◌, not, true, false, List, length}
use Rattle.yaml_direct.specs.declared.reader.Reader.{Reader}
use Rattle.yaml_grammar.specs.Bytes.{at, column, is_mark}
use Rattle.yaml_grammar.specs.Gaps.{breaks, ends_its_line, next}

-- A reader has gone from a place to the next token, or to the end of the text, and has counted a line if one ended. In
-- the same line only spaces come before the token; else its column is counted from where its line begins.
pub record IsAtNext (old new : Reader) (from to : ℕ) : Type 0 where
  pub there : to ≡ next old.text.now from
  pub lines : not (new.line == old.line) ≡ breaks old.text.now from
  pub counted : old.line ≤ new.line
  pub start : breaks old.text.now from ≡ false → new.line_start ≡ old.line_start
  pub in_line : breaks old.text.now from ≡ false → to < length old.text.now
      → column old.text.now to ≡ column old.text.now from + (to - from)
  pub in_later_line : breaks old.text.now from ≡ true → to < length old.text.now
      → column old.text.now to ≡ to - new.line_start

-- the line that was begun last begins in a place, or the text ends there
abbrev pub IsLineBegin : Reader → ℕ → Type 0
IsLineBegin r place =
    ((place ≡ r.line_start) × (at r.text.now (place - 1) ≡ 10)) ⊎ (place ≡ length r.text.now)

-- no token follows: `#` stands right here, where it begins no comment
pub record HasNoToken (text : List ℕ) (from : ℕ) : Type 0 where
  pub sharp : at text from ≡ 35
  pub here : next text from ≡ from
  pub in_line : breaks text from ≡ false

-- A place whose column is counted in bytes from where the line begins that was begun last, or the end of the text. Only
-- bytes of ASCII come before it in its line.
pub record IsCounted (r : Reader) (place : ℕ) : Type 0 where
  pub within : place ≤ length r.text.now
  pub column : place < length r.text.now → column r.text.now place ≡ place - r.line_start

-- a place of which it is known whether the line that was begun last begins there, or the end of the text
pub record IsLined (r : Reader) (place : ℕ) : Type 0 where
  pub within : place ≤ length r.text.now
  pub first : place < length r.text.now → (column r.text.now place == 0) ≡ (place == r.line_start)

-- a place behind some bytes of its line
pub record IsAmidLine (r : Reader) (place : ℕ) : Type 0 where
  pub behind : r.line_start < place
  pub inner : (column r.text.now place == 0) ≡ false

-- the next token is `:` as an indicator, and stands in this line
pub record EndsKey (text : List ℕ) (end colon : ℕ) : Type 0 where
  pub there : colon ≡ next text end
  pub in_line : breaks text end ≡ false
  pub mark : is_mark text 58 colon ≡ true

-- a reader stands at the next token behind what ends its line here, and columns are counted there
pub record IsBehindLine (text : List ℕ) (r : Reader) (end next' : ℕ) : Type 0 where
  pub there : next' ≡ next text end
  pub ends : ends_its_line text end ≡ true
  pub counted : IsCounted r next'
