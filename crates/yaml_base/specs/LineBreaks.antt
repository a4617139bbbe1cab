-- Where lines end, for each reader of YAML.
use Rattle.std.specs.Prelude.{◌≡◌, ◌==◌, ◌&&◌, ◌||◌, ◌<◌, ℕ, Bool, List, drop, false, length, slice_index}

-- the bytes begin with a line feed, a carriage return, a next line, a line separator or a paragraph separator
abbrev pub begins_with_break : List ℕ → Bool
begins_with_break bytes =
    let first = slice_index bytes 0 in
    let second = slice_index bytes 1 in
    let third = slice_index bytes 2 in
    first == 0x0A || (first == 0x0D || (first == 0xC2 && second == 0x85
    || first == 0xE2 && (second == 0x80 && (third == 0xA8 || third == 0xA9))))

-- no line break stands in the bytes
abbrev pub IsOneLine : List ℕ → Type 0
IsOneLine bytes = (k : ℕ) → k < length bytes → begins_with_break (drop k bytes) ≡ false
