-- Scalars that are blocks of lines, behind `|` or `>`.
use Rattle.std.specs.Prelude.{ℕ, suc, ◌+◌, ◌-◌, max, Bool, true, false, not, ◌==◌, ◌&&◌, ◌||◌, if◌then◌else◌}
use Rattle.std.specs.Prelude.{List, [], ◌∷◌, ◌++◌, Option, Some, None, drop, length, nat_le, nat_lt, replicate}
use Rattle.std.specs.Int.{is_in_range}
use Rattle.std.specs.Option.{option_map}
use Rattle.yaml_grammar.specs.Bytes.{at, is_blank}
use Rattle.yaml_grammar.specs.Folding.{folded}

-- a byte before the first line
abbrev pub into_first : (byte : ℕ) → List (List ℕ) → List (List ℕ)
into_first c [] = (c ∷ []) ∷ []
into_first c (line ∷ lines) = (c ∷ line) ∷ lines

-- the lines of a text without their line feeds, which each has but the last
abbrev pub lines_of : List ℕ → List (List ℕ)
lines_of [] = [] ∷ []
lines_of (c ∷ cs) =
    let lines = lines_of cs in
    if c == 10 then [] ∷ lines else into_first c lines

-- no line is left
abbrev pub is_last : List (List ℕ) → Bool
is_last [] = true
is_last (line ∷ lines) = false

-- how many spaces begin a line
abbrev pub spaces : List ℕ → ℕ
spaces [] = 0
spaces (c ∷ cs) =
    let more = suc (spaces cs) in
    if c == 32 then more else 0

-- the line has spaces alone
abbrev pub is_spaces : List ℕ → Bool
is_spaces line = spaces line == length line

-- what becomes of the line feeds at the end: all go, one stays, or all stay
pub data Chomping : Type 0 where
  strip clip keep : Chomping

-- what the first line says: the chomping; how many columns further in the lines stand, or 0; and in how many bytes
pub record Header : Type 0 where
  pub chomping : Chomping
  pub step : ℕ
  pub size : ℕ

-- what a sign says, and any other byte
abbrev pub chomping_of : ℕ → Chomping
chomping_of c = if c == 45 then strip else if c == 43 then keep else clip

-- a sign of chomping
abbrev pub is_sign : ℕ → Bool
is_sign c = c == 45 || c == 43

-- a digit, but 0
abbrev pub is_step : ℕ → Bool
is_step c = is_in_range 49 57 c

-- what a digit says, and any other byte
abbrev pub step_of : ℕ → ℕ
step_of c = if is_step c then c - 48 else 0

-- what stands behind `|` or `>`: a sign and a digit in either order, one of them, or neither
abbrev pub header_of : List ℕ → Header
header_of bytes =
    let c = at bytes 0 in
    let d = at bytes 1 in
    if is_sign c then record { chomping = chomping_of c; step = step_of d; size = if is_step d then 2 else 1 }
    else if is_step c then record { chomping = chomping_of d; step = step_of c; size = if is_sign d then 2 else 1 }
    else record { chomping = clip; step = 0; size = 0 }

-- nothing, spaces, or spaces and a comment
abbrev pub is_remark : List ℕ → Bool
is_remark [] = true
is_remark (c ∷ cs) = c == 32 && (is_remark cs || at cs 0 == 35)

-- How far in the lines stand where the first line does not say it: as far as the first line with text, as the widest
-- line before it, and as the least. No tab begins that line.
abbrev pub found_indent : (widest : ℕ) → List (List ℕ) → Option ℕ
found_indent widest [] = Some widest
found_indent widest (line ∷ lines) =
    let in_later_line = found_indent (max widest (length line)) lines in
    if is_spaces line && not (is_last lines) then in_later_line
    else if at line (spaces line) == 9 then None else Some (max widest (spaces line))

-- how far in they stand
abbrev pub indent_of : Header → (least : ℕ) → List (List ℕ) → Option ℕ
indent_of header least lines =
    if header.step == 0 then found_indent (max least 1) lines else Some (least - 1 + header.step)

-- which line with text came last: none, or one that begins with a blank or not
pub data Row : Type 0 where
  no_row flat deep : Row

-- such a line that begins with this byte
abbrev pub row_of : ℕ → Row
row_of c = if is_blank c then deep else flat

-- what a line feed and so many empty lines say between two lines with text: they are folded where neither begins with a
-- blank
abbrev pub joined : (folds : Bool) → (last now : Row) → (empty : ℕ) → List ℕ
joined folds no_row now empty = replicate empty 10
joined true flat flat empty = folded (suc empty)
joined folds last now empty = 10 ∷ replicate empty 10

-- what the line feed behind the last line with text and so many empty lines say at the end
abbrev pub chomped : Chomping → Row → (empty : ℕ) → List ℕ
chomped strip row empty = []
chomped clip no_row empty = []
chomped clip row empty = 10 ∷ []
chomped keep no_row empty = replicate empty 10
chomped keep row empty = 10 ∷ replicate empty 10

-- a line with its line feed, what it says, and then the rest
abbrev pub with_line : (line said : List ℕ) → ℕ × List ℕ → ℕ × List ℕ
with_line line said rest = (suc (length line) + rest.0, said ++ rest.1)

-- The rest of a block: how many bytes it has, and what it says. A line of spaces, no more than the lines stand in, is
-- empty; any other that stands less far in is behind the block.
abbrev pub rows : (folds : Bool) → Chomping → (indent : ℕ) → Row → (empty : ℕ) → List (List ℕ) → ℕ × List ℕ
rows folds chomping indent last empty [] = (0, [])
rows folds chomping indent last empty (line ∷ lines) =
    let content = drop indent line in
    let now = row_of (at content 0) in
    let text = joined folds last now empty ++ content in
    let one_empty = with_line line [] (rows folds chomping indent last (suc empty) lines) in
    let one_row = with_line line text (rows folds chomping indent now 0 lines) in
    if is_spaces line && (nat_le (length line) indent && not (is_last lines)) then one_empty
    else if nat_lt (spaces line) indent || nat_le (length line) indent then (0, chomped chomping last empty)
    else if is_last lines then (length line, text) else one_row

-- the place behind so many bytes, and what they say
abbrev pub behind : (place : ℕ) → ℕ × List ℕ → ℕ × List ℕ
behind place block = (place + block.0, block.1)

-- the block whose first line ends with these lines, the first of which is the rest of that
abbrev pub block_lines : (folds : Bool) → Header → (least place : ℕ) → List (List ℕ) → Option (ℕ × List ℕ)
block_lines folds header least place [] = None
block_lines folds header least place (line ∷ []) = if is_remark line then Some (place + length line, []) else None
block_lines folds header least place (line ∷ (first ∷ lines)) =
    if is_remark line then
    option_map (λ indent. behind (place + length line + 1) (rows folds header.chomping indent no_row 0 (first ∷ lines)))
    (indent_of header least (first ∷ lines))
    else None

-- the place behind the block whose `|` or `>` stands here, and what it says
abbrev pub block_at : List ℕ → (least i : ℕ) → Option (ℕ × List ℕ)
block_at text least i =
    let header = header_of (drop (suc i) text) in
    let place = suc i + header.size in
    if at text i == 124 || at text i == 62 then
    block_lines (at text i == 62) header least place (lines_of (drop place text))
    else None
