-- The integer that a `Number` is.
use Rattle.std.specs.Prelude.{◌≡◌, ℤ, pos, negsuc, true}
use Rattle.std.proofs.Common.{sym, true≢false}
use Rattle.yaml_tree.specs.Integer.{is_number, integer_value, is_canonical}
use Rattle.yaml_tree.specs.declared.number.Integer.{Integer}
use Rattle.yaml_tree.specs.declared.number.Integer.TheVariants.{Unsigned, Negative}
use Rattle.yaml_tree.specs.declared.number.Number.{Number}

-- the integer that a number is
abbrev pub number_of : Number → ℤ
number_of x = integer_value x.integer

-- the integer of a form is in range
is_number-canonical : (form : Integer) → is_canonical form ≡ true → is_number (integer_value form) ≡ true
is_number-canonical (Unsigned n) e = e
is_number-canonical (Negative (pos n)) e = absurd (true≢false (sym e))
is_number-canonical (Negative (negsuc n)) e = e

-- each number is in the range of `u64` or of `i64`
pub is_number-number_of : (x : Number) → is_number (number_of x) ≡ true
is_number-number_of x = is_number-canonical x.integer x.canonical
