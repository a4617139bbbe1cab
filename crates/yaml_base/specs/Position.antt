-- What a mark is: an index, a line and a column.
use Rattle.std.specs.Prelude.{ℕ, ◌+◌}

-- each counted from 0
pub record Position : Type 0 where
  pub index : ℕ
  pub line : ℕ
  pub column : ℕ

-- the same place, with line and column counted from 1
abbrev pub counted_from_one : Position → Position
counted_from_one m = record { index = m.index; line = m.line + 1; column = m.column + 1 }
