-- What stands between quotes, by examples whose values the rules of YAML give.
use Rattle.std.proofs.Common.{◌≡◌, codes, [], ◌∷◌, ◌++◌, Some, None, refl}
use lib.Utf8.{encode}
use Rattle.yaml_base.specs.QuotedLines.{unescaped, undoubled}

-- text stands for itself, blanks at its ends too
itself : unescaped (codes " a: #b ") ≡ Some (codes " a: #b ")
itself = refl

-- letters behind a backslash
letters : unescaped (codes "\\0\\a\\b\\t\\n\\v\\f\\r\\e\\ \\\"\\/\\\\")
    ≡ Some (0 ∷ 7 ∷ 8 ∷ 9 ∷ 10 ∷ 11 ∷ 12 ∷ 13 ∷ 27 ∷ 32 ∷ 34 ∷ 47 ∷ 92 ∷ [])
unfolding encode
letters = refl

-- a next line, a space that does not break, a line separator and a paragraph separator
spaces : unescaped (codes "\\N\\_\\L\\P")
    ≡ Some (0xC2 ∷ 0x85 ∷ 0xC2 ∷ 0xA0 ∷ 0xE2 ∷ 0x80 ∷ 0xA8 ∷ 0xE2 ∷ 0x80 ∷ 0xA9 ∷ [])
unfolding encode
spaces = refl

-- the same letter by two, four and eight digits
digits_of_a : unescaped (codes "\\x41\\u0041\\U00000041") ≡ Some (codes "AAA")
unfolding encode
digits_of_a = refl

-- an accented letter, a snowman and a face
further : unescaped (codes "\\xe9\\u2603\\U0001F600")
    ≡ Some (0xC3 ∷ 0xA9 ∷ 0xE2 ∷ 0x98 ∷ 0x83 ∷ 0xF0 ∷ 0x9F ∷ 0x98 ∷ 0x80 ∷ [])
unfolding encode
further = refl

-- no escape, too few digits, a digit that is none, half of a pair, and too large a code
no_escape : unescaped (codes "\\c") ≡ None
no_escape = refl

too_short : unescaped (codes "\\u041") ≡ None
too_short = refl

no_digit : unescaped (codes "\\xq-") ≡ None
no_digit = refl

half_of_a_pair : unescaped (codes "\\uD800") ≡ None
half_of_a_pair = refl

too_large : unescaped (codes "\\U00110000") ≡ None
too_large = refl

-- a quote ends the text, a backslash begins an escape, and a line break folds
quote_within : unescaped (codes "a\"b") ≡ None
quote_within = refl

backslash_at_the_end : unescaped (codes "a\\") ≡ None
backslash_at_the_end = refl

broken_line : unescaped (codes "a" ++ (0xE2 ∷ 0x80 ∷ 0xA8 ∷ codes "b")) ≡ None
broken_line = refl

-- between single quotes nothing is an escape but two quotes
doubled_quote : undoubled (codes "here''s to \"quotes\" \\n") ≡ Some (codes "here's to \"quotes\" \\n")
doubled_quote = refl

quotes_alone : undoubled (codes "''''") ≡ Some (codes "''")
quotes_alone = refl

odd_quote : undoubled (codes "a'b") ≡ None
odd_quote = refl

quote_at_the_end : undoubled (codes "a'") ≡ None
quote_at_the_end = refl

broken_quoted : undoubled (codes "a" ++ (10 ∷ codes "b")) ≡ None
broken_quoted = refl
