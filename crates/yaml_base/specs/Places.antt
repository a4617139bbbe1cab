-- Where the bytes of a text stand: in which line, and at which column of it, each counted from 0.
use Rattle.std.specs.Prelude.{ℕ, zero, suc, ◌+◌, ◌-◌, List, Bool, not, ◌&&◌, ◌||◌, ◌==◌, if◌then◌else◌, slice_index}
use Rattle.std.specs.Int.{is_in_range}

-- A line ends with the byte at this index: a line feed; a carriage return that no line feed follows; or the last byte
-- of a next line, of a line separator or of a paragraph separator.
abbrev pub ends_line : List ℕ → ℕ → Bool
ends_line text i =
    let byte = slice_index text i in
    let before = slice_index text (i - 1) in
    byte == 0x0A || (byte == 0x0D && not (slice_index text (i + 1) == 0x0A) || (byte == 0x85 && before == 0xC2
    || (byte == 0xA8 || byte == 0xA9) && (before == 0x80 && slice_index text (i - 2) == 0xE2)))

-- the text begins with the mark of the order of bytes
abbrev pub has_order_mark : List ℕ → Bool
has_order_mark text = slice_index text 0 == 0xEF && (slice_index text 1 == 0xBB && slice_index text 2 == 0xBF)

-- a character that counts begins with the byte at this index: any but the mark of the order of bytes at the beginning
abbrev pub begins_character : List ℕ → ℕ → Bool
begins_character text i =
    not (is_in_range 0x80 0xBF (slice_index text i)) && not (i == 0 && has_order_mark text)

-- the line and the column behind a byte: at the end of a line the next one begins, and a character takes a column
abbrev pub place_behind : List ℕ → ℕ → ℕ × ℕ → ℕ × ℕ
place_behind text i place =
    if ends_line text i then (place.0 + 1, 0)
    else (if begins_character text i then (place.0, place.1 + 1) else place)

-- the line and the column of the byte at this index
abbrev pub place_of : List ℕ → ℕ → ℕ × ℕ
place_of text zero = (0, 0)
place_of text (suc i) = place_behind text i (place_of text i)
