-- Characters by how they may be printed. A character is its code.
use Rattle.std.specs.Prelude.{ℕ, Bool, nat_le, ◌==◌, ◌&&◌, ◌||◌}

-- a line ends behind the character, for some reader of YAML
abbrev pub is_break : ℕ → Bool
is_break c = c == 10 || c == 13 || c == 0x85 || c == 0x2028 || c == 0x2029

-- the character is one from `low` to `high`
abbrev pub is_from : ℕ → ℕ → ℕ → Bool
is_from low high c = nat_le low c && nat_le c high

-- the character may stand as it is: no control, no tab, no break, no mark of the order of bytes
abbrev pub is_printable : ℕ → Bool
is_printable c = is_from 32 126 c || is_from 0xA0 0x2027 c || is_from 0x202A 0xFEFE c || is_from 0xFF00 0xFFFD c
    || is_from 0x10000 0x10FFFF c

-- the character may stand as it is, or is a line feed
abbrev pub is_line_text : ℕ → Bool
is_line_text c = c == 10 || is_printable c
