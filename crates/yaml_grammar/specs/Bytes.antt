-- The bytes of a text by what they may begin or end. A place is an index; behind the text every byte is 0.
use Rattle.std.specs.Prelude.{ℕ, ◌+◌, Bool, not, ◌==◌, ◌&&◌, ◌||◌, List, drop, length, codes, nat_eq, nat_le}
use Rattle.std.specs.Prelude.{slice_index, slice_range}
use Rattle.std.specs.Int.{is_in_range}
use Rattle.std.specs.List.{list_all, list_any}
use Rattle.std.specs.Str.{chars, is_utf8}
use Rattle.yaml_base.specs.Places.{place_of}

-- the byte in a place
abbrev pub at : List ℕ → ℕ → ℕ
at text i = slice_index text i

-- the byte is one of these
abbrev pub is_one_of : List ℕ → ℕ → Bool
is_one_of bytes c = list_any (nat_eq c) bytes

-- a space or a tab
abbrev pub is_blank : ℕ → Bool
is_blank c = c == 32 || c == 9

-- what may stand behind an indicator: a blank, or the end of the line or of the text
abbrev pub is_gap : ℕ → Bool
is_gap c = is_blank c || (c == 10 || c == 0)

-- the bytes that begin or end a collection in brackets, or part what it holds
abbrev pub is_bracket : ℕ → Bool
is_bracket c = is_one_of (codes ",[]{}") c

-- the bytes that begin something else than plain text
abbrev pub is_indicator : ℕ → Bool
is_indicator c = is_bracket c || is_one_of (codes "#&*!|>'\"%@`") c

-- `-`, `?` or `:` stands here as an indicator
abbrev pub is_mark : List ℕ → (byte i : ℕ) → Bool
is_mark text c i = at text i == c && is_gap (at text (i + 1))

-- the column of a place: how many characters of its line come before it
abbrev pub column : List ℕ → ℕ → ℕ
column text i = (place_of text i).1

-- the bytes begin with three of this one, alone
abbrev pub is_triple : (byte : ℕ) → List ℕ → Bool
is_triple c bytes = at bytes 0 == c && (at bytes 1 == c && (at bytes 2 == c && is_gap (at bytes 3)))

-- the bytes begin with `---` or `...`, alone
abbrev pub parts : List ℕ → Bool
parts bytes = is_triple 45 bytes || is_triple 46 bytes

-- `---` or `...` begins the line
abbrev pub parts_documents : List ℕ → ℕ → Bool
parts_documents text i = column text i == 0 && parts (drop i text)

-- the document ends here
abbrev pub is_over : List ℕ → ℕ → Bool
is_over text i = nat_le (length text) i || parts_documents text i

-- no line feed stands between two places
abbrev pub is_one_line : List ℕ → (i j : ℕ) → Bool
is_one_line text i j = not (list_any (nat_eq 10) (slice_range text i j))

-- the character of this code is printed, a tab or a line feed; no other end of a line, no mark of the order of bytes
abbrev pub is_character : ℕ → Bool
is_character c = c == 9 || (c == 10 || (is_in_range 0x20 0x7E c || (is_in_range 0xA0 0x2027 c
    || (is_in_range 0x202A 0xD7FF c || (is_in_range 0xE000 0xFEFE c || (is_in_range 0xFF00 0xFFFD c
    || is_in_range 0x10000 0x10FFFF c))))))

-- the bytes are UTF-8 of such characters
abbrev pub is_text : List ℕ → Bool
is_text text = is_utf8 text && list_all is_character (chars text)
