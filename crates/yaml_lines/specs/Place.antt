-- How a line writes numbers and the mark that it begins with.
use Rattle.std.specs.Prelude.{ℕ, ◌≡◌, ◌+◌, ◌<◌, ◌^◌, List, ◌∷◌, ◌++◌}
use Rattle.std.specs.Str.Parse.{IsNumeral, digits_value}
use Rattle.yaml_base.specs.Position.{Position}

-- the decimal digits write the number, which is a `u64`
pub record IsDecimalNumber (digits : List ℕ) (n : ℕ) : Type 0 where
  pub numeral : IsNumeral 10 digits
  pub value : digits_value 10 digits ≡ n
  pub fits : n < 2 ^ 64

-- the text begins with this number and the byte behind it
pub record HasNumber (text : List ℕ) (byte n : ℕ) (rest : List ℕ) : Type 0 where
  pub digits : List ℕ
  pub split : text ≡ digits ++ byte ∷ rest
  pub is_number : IsDecimalNumber digits n

-- the line begins with a mark, whose line and column can be counted from 1: three numbers, with `:` (58) behind the
-- first two and a space (32) behind the third
pub record IsMarked (text : List ℕ) (mark : Position) (rest : List ℕ) : Type 0 where
  pub behind_index : List ℕ
  pub behind_line : List ℕ
  pub has_index : HasNumber text 58 mark.index behind_index
  pub has_line : HasNumber behind_index 58 mark.line behind_line
  pub has_column : HasNumber behind_line 32 mark.column rest
  pub countable_line : mark.line + 1 < 2 ^ 64
  pub countable_column : mark.column + 1 < 2 ^ 64
