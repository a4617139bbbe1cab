-- What stands between two tokens: spaces, comments and line feeds; and where the next token stands.
use Rattle.std.specs.Prelude.{ℕ, suc, ◌+◌, ◌-◌, Bool, true, false, not, ◌==◌, ◌&&◌, ◌||◌, if◌then◌else◌}
use Rattle.std.specs.Prelude.{List, [], ◌∷◌, drop, length, nat_le}
use Rattle.yaml_grammar.specs.Bytes.{at, column, is_mark, is_over}

-- what comes before a byte: a token, a space or the beginning of a line, or a part of a comment
pub data Before : Type 0 where
  token apart comment : Before

-- one byte more
abbrev pub one_more : ℕ × Bool → ℕ × Bool
one_more gap = (suc gap.0, gap.1)

-- one byte more, a line feed
abbrev pub one_feed_more : ℕ × Bool → ℕ × Bool
one_feed_more gap = (suc gap.0, true)

-- How many bytes come before the next token, and whether a line ends among them. A comment begins with `#`, behind a
-- space or at the beginning of a line, and goes to the line's end.
abbrev pub gap : Before → List ℕ → ℕ × Bool
gap before [] = (0, false)
gap comment (c ∷ cs) =
    let in_comment = one_more (gap comment cs) in
    let in_later_line = one_feed_more (gap apart cs) in
    if c == 10 then in_later_line else in_comment
gap token (c ∷ cs) =
    let behind_space = one_more (gap apart cs) in
    let in_later_line = one_feed_more (gap apart cs) in
    if c == 10 then in_later_line else if c == 32 then behind_space else (0, false)
gap apart (c ∷ cs) =
    let in_comment = one_more (gap comment cs) in
    let behind_space = one_more (gap apart cs) in
    let in_later_line = one_feed_more (gap apart cs) in
    if c == 10 then in_later_line else if c == 32 then behind_space else if c == 35 then in_comment else (0, false)

-- what comes before a place that is in no comment
abbrev pub before : List ℕ → ℕ → Before
before text i = if i == 0 || (at text (i - 1) == 32 || at text (i - 1) == 10) then apart else token

-- the place of the next token from a place on, or of the text's end
abbrev pub next : List ℕ → ℕ → ℕ
next text i = i + (gap (before text i) (drop i text)).0

-- a line ends before the next token
abbrev pub breaks : List ℕ → ℕ → Bool
breaks text i = (gap (before text i) (drop i text)).1

-- no token follows in this line
abbrev pub ends_its_line : List ℕ → ℕ → Bool
ends_its_line text i = breaks text i || nat_le (length text) (next text i)

-- the token here stands in a column or further in, and in this document
abbrev pub is_within : List ℕ → (least i : ℕ) → Bool
is_within text least i = not (is_over text i) && nat_le least (column text i)

-- the token here stands in this column, and in this document
abbrev pub is_at : List ℕ → (column' i : ℕ) → Bool
is_at text c i = not (is_over text i) && column text i == c

-- an item of a sequence in this column begins here
abbrev pub is_item : List ℕ → (column' i : ℕ) → Bool
is_item text c i = is_mark text 45 i && column text i == c

-- the next token stands in this line, or in a column or further in
abbrev pub follows : List ℕ → (least i : ℕ) → Bool
follows text least i = not (ends_its_line text i) || is_within text least (next text i)
