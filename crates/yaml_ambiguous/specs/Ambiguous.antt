-- Texts that some reader of YAML takes for something else where they stand without quotes: those of YAML 1.1, whose
-- words are more and whose numbers have more forms, and those that know dates, times and symbols.
use Rattle.std.specs.Prelude.{ℕ, Bool, true, false, ◌==◌, ◌&&◌, ◌||◌, List, [], ◌∷◌, bytes_eq, codes, map, nat_eq}
use Rattle.std.specs.Prelude.{if◌then◌else◌}
use Rattle.std.specs.Char.{is_ascii_digit, is_ascii_hexdigit, to_ascii_lowercase}
use Rattle.std.specs.List.{list_all, list_any}

-- the text is this word, whatever its letters' case
abbrev pub is_word : (word text : List ℕ) → Bool
is_word word text = bytes_eq (map to_ascii_lowercase text) word

-- a word for a boolean
abbrev pub is_boolean_word : List ℕ → Bool
is_boolean_word text =
    is_word (codes "y") text || (is_word (codes "yes") text || (is_word (codes "on") text
    || (is_word (codes "true") text || (is_word (codes "n") text || (is_word (codes "no") text
    || (is_word (codes "off") text || is_word (codes "false") text))))))

-- a word for null, the key of a merge, or the key of a value
abbrev pub is_other_word : List ℕ → Bool
is_other_word text =
    is_word (codes "null") text || (is_word (codes "~") text
    || (is_word (codes "<<") text || is_word (codes "=") text))

-- a byte that numbers begin with: a digit, a sign or a point
abbrev pub begins_number : ℕ → Bool
begins_number c = is_ascii_digit c || list_any (nat_eq c) (codes "+-.")

-- a byte of numbers, dates and times: what parts their digits, and the letters of exponents and zones of time
abbrev pub is_of_number : ℕ → Bool
is_of_number c = is_ascii_digit c || list_any (nat_eq c) (codes "+-.,:_ eEtTzZ")

-- a number, a date or a time, by its bytes alone
abbrev pub is_like_number : List ℕ → Bool
is_like_number [] = false
is_like_number (c ∷ cs) = begins_number c && list_all is_of_number cs

-- a letter that names a base
abbrev pub is_base : ℕ → Bool
is_base c = list_any (nat_eq c) (codes "bBoOxX")

-- a digit of such a base, or what parts digits
abbrev pub is_base_digit : ℕ → Bool
is_base_digit c = is_ascii_hexdigit c || (c == 95 || c == 44)

-- digits behind `0` and the letter of their base
abbrev pub is_based_body : List ℕ → Bool
is_based_body (c ∷ d ∷ cs) = c == 48 && (is_base d && list_all is_base_digit cs)
is_based_body cs = false

-- the text behind its sign, if it has one
abbrev pub behind_sign : List ℕ → List ℕ
behind_sign [] = []
behind_sign (c ∷ cs) = if c == 43 || c == 45 then cs else c ∷ cs

-- a number in another base than ten, behind an optional sign
abbrev pub is_based : List ℕ → Bool
is_based text = is_based_body (behind_sign text)

-- a symbol: it begins with `:`
abbrev pub is_symbol : List ℕ → Bool
is_symbol [] = false
is_symbol (c ∷ cs) = c == 58

-- some reader may take the text, without quotes, for something else than a text
abbrev pub is_ambiguous : List ℕ → Bool
is_ambiguous text =
    is_boolean_word text || (is_other_word text || (is_like_number text || (is_based text || is_symbol text)))
