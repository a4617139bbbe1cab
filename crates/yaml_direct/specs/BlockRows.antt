-- The lines of a block of text, from a place on, in the words of the grammar.
use Rattle.std.specs.Prelude.{ℕ, ◌+◌, ◌-◌, ◌≤◌, ◌≡◌, ◌≢◌, ◌⊎◌, Bool, List, [], ◌++◌, drop, if◌then◌else◌, min}
use Rattle.std.specs.Prelude.{Option, Some, length, nat_le, replicate}
use Rattle.std.specs.Option.{option_map}
use Rattle.yaml_direct.specs.Bytes.{AreBlanks, at}
use Rattle.yaml_direct.specs.declared.block_scalar.Block.{Block}
use Rattle.yaml_direct.specs.declared.block_scalar.EmptyLines.{EmptyLines}
use Rattle.yaml_grammar.specs.BlockTexts.{Chomping, Header, Row, behind, clip, deep, flat, indent_of, keep, lines_of}
use Rattle.yaml_grammar.specs.BlockTexts.{no_row, rows, strip}
use Rattle.yaml_grammar.specs.Gaps.{next}

-- the rest of a block from a place on, behind a line and so many empty ones
abbrev pub rows_from : List ℕ → (folds : Bool) → Chomping → (indent : ℕ) → Row → (empty i : ℕ) → ℕ × List ℕ
rows_from text folds chomping indent last empty i = rows folds chomping indent last empty (lines_of (drop i text))

-- so many bytes that say this, and then the rest
abbrev pub rows_behind : (count : ℕ) → (said : List ℕ) → ℕ × List ℕ → ℕ × List ℕ
rows_behind count said rest = (count + rest.0, said ++ rest.1)

-- so many empty lines stand between two places
pub record AreEmpty (text : List ℕ) (indent count i j : ℕ) : Type 0 where
  pub forward : i ≤ j
  pub rows : (folds : Bool) (chomping : Chomping) (last : Row) (empty : ℕ)
      → rows_from text folds chomping indent last empty i
      ≡ rows_behind (j - i) [] (rows_from text folds chomping indent last (empty + count) j)

-- the spaces that begin a line, up to so many
pub record IsIndented (text : List ℕ) (indent i j : ℕ) : Type 0 where
  pub forward : i ≤ j
  pub blanks : AreBlanks text i j
  pub few : j - i ≤ indent
  pub ends : (j - i ≡ indent) ⊎ (at text j ≢ 32)

-- empty lines were stepped over from a place on, and the spaces that begin the line behind them
pub record ReadsEmpty (text : List ℕ) (indent from : ℕ) (lines : EmptyLines) : Type 0 where
  pub empty : AreEmpty text indent lines.count from lines.line
  pub indented : IsIndented text indent lines.line lines.place
  pub some : at text lines.place ≢ 10

-- the line with text that was read last
abbrev pub row_as : Block → Row
row_as block = if block.begun then (if block.blank then deep else flat) else no_row

-- how many of the last line feeds are wanted
abbrev pub kept_feeds : Chomping → Block → ℕ
kept_feeds strip block = 0
kept_feeds clip block = min block.feeds (if block.begun then 1 else 0)
kept_feeds keep block = block.feeds

-- The lines of a block up to a place were put behind a text, and no more stand there. The line feeds that are wanted of
-- the last are still to come.
pub record ReadsRows (text : List ℕ) (folds : Bool) (indent from to : ℕ) (old new : List ℕ)
    (block : Block) : Type 0 where
  pub said : List ℕ
  pub added : new ≡ old ++ said
  pub read : (chomping : Chomping) → rows_from text folds chomping indent no_row 0 from
      ≡ (to - from, said ++ replicate (kept_feeds chomping block) 10)

-- the block behind a first line that ends in a place
abbrev pub block_behind : List ℕ → (folds : Bool) → Header → (least end : ℕ) → Option (ℕ × List ℕ)
block_behind text folds header least end =
    if nat_le (length text) end then Some (end, [])
    else option_map (λ indent. behind (end + 1) (rows_from text folds header.chomping indent no_row 0 (end + 1)))
    (indent_of header least (lines_of (drop (end + 1) text)))

-- The block behind a first line that ends in a place, and that says so, goes up to another. Its text was put behind a
-- text, but for the line feeds that are wanted of the last.
pub record ReadsBlock (text : List ℕ) (folds : Bool) (step least from to : ℕ) (old new : List ℕ)
    (block : Block) : Type 0 where
  pub said : List ℕ
  pub added : new ≡ old ++ said
  pub read : (header : Header) → header.step ≡ step → block_behind text folds header least from
      ≡ Some (to, said ++ replicate (kept_feeds header.chomping block) 10)

-- there is none, or a tab is the next token behind it
abbrev pub HasNoBlock : List ℕ → (folds : Bool) → (step least from : ℕ) → Type 0
HasNoBlock text folds step least from =
    (header : Header) → header.step ≡ step → (end : ℕ) (said : List ℕ)
    → block_behind text folds header least from ≡ Some (end, said) → at text (next text end) ≡ 9

-- a tab is the next token behind a block
pub record EndsAtTab (text : List ℕ) (folds : Bool) (indent from : ℕ) : Type 0 where
  pub end : ℕ
  pub low : from ≤ end
  pub read : (chomping : Chomping) → (rows_from text folds chomping indent no_row 0 from).0 ≡ end - from
  pub tab : at text (next text end) ≡ 9
