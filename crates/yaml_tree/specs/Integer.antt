-- The integers that a number can be, and the one that it is.
use Rattle.std.specs.Prelude.{ℕ, ◌^◌, ℤ, pos, negsuc, Bool, false, Option, Some, None, nat_lt, if◌then◌else◌}
use Rattle.yaml_tree.specs.declared.number.Integer.{Integer}
use Rattle.yaml_tree.specs.declared.number.Integer.TheVariants.{Unsigned, Negative}

-- the integer is in the range of `u64` or of `i64`
abbrev pub is_number : ℤ → Bool
is_number (pos n) = nat_lt n (2 ^ 64)
is_number (negsuc n) = nat_lt n (2 ^ 63)

-- the integer that a form stands for
abbrev pub integer_value : Integer → ℤ
integer_value (Unsigned n) = pos n
integer_value (Negative z) = z

-- only an integer below 0 has the negative form, and each is in range
abbrev pub is_canonical : Integer → Bool
is_canonical (Unsigned n) = is_number (pos n)
is_canonical (Negative (pos n)) = false
is_canonical (Negative (negsuc n)) = is_number (negsuc n)

-- the integer as a `u64`
abbrev pub as_u64 : ℤ → Option ℕ
as_u64 (pos n) = Some n
as_u64 (negsuc n) = None

-- the integer as an `i64`
abbrev pub as_i64 : ℤ → Option ℤ
as_i64 (pos n) = if nat_lt n (2 ^ 63) then Some (pos n) else None
as_i64 (negsuc n) = Some (negsuc n)
