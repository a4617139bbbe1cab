-- The first line of a block of text, in the words of the grammar.
use Rattle.std.specs.Prelude.{ℕ, ◌+◌, ◌^◌, ◌≡◌, ◌≢◌, ◌<◌, ◌≤◌, true, false, List, Option, drop, length, slice_range}
use Rattle.yaml_direct.specs.Bytes.{AreBlanks, at}
use Rattle.yaml_direct.specs.Gaps.{InLine, IsLineEnd}
use Rattle.yaml_direct.specs.Places.{no_place}
use Rattle.yaml_direct.specs.declared.header.Chomping.{Chomping}
use Rattle.yaml_direct.specs.declared.header.Chomping.TheVariants.{Clip, Keep, Strip}
use Rattle.yaml_direct.specs.declared.header.Header.{Header}
use Rattle.yaml_direct.specs.declared.header.Signs.{Signs}
use Rattle.yaml_grammar.specs.BlockTexts as grammar
use Rattle.yaml_grammar.specs.BlockTexts.{header_of, indent_of, is_remark, lines_of}

-- the rest of a line from a place on ends in another, and is a remark: spaces, or spaces and a comment
pub record IsRemark (text : List ℕ) (i j : ℕ) : Type 0 where
  pub forward : i ≤ j
  pub line : InLine text i j
  pub ends : IsLineEnd text j
  pub remark : is_remark (slice_range text i j) ≡ true

-- it is none, wherever the line ends
abbrev pub HasNoRemark : List ℕ → ℕ → Type 0
HasNoRemark text i =
    (j : ℕ) → i ≤ j → j ≤ length text → InLine text i j → IsLineEnd text j → is_remark (slice_range text i j) ≡ false

-- spaces and a comment stand between two places, up to where the line ends
pub record IsCommented (text : List ℕ) (i j : ℕ) : Type 0 where
  pub place : ℕ
  pub some : i < place
  pub blanks : AreBlanks text i place
  pub sharp : at text place ≡ 35
  pub forward : place ≤ j
  pub line : InLine text place j
  pub ends : IsLineEnd text j

-- spaces stand between two places, and neither one nor a comment behind them
pub record IsSpaced (text : List ℕ) (i j : ℕ) : Type 0 where
  pub blanks : AreBlanks text i j
  pub space : at text j ≢ 32
  pub sharp : i < j → at text j ≢ 35

-- a chomping as the grammar names it
abbrev pub chomping_as : Chomping → grammar.Chomping
chomping_as Clip = grammar.clip
chomping_as Strip = grammar.strip
chomping_as Keep = grammar.keep

-- what a sign and a digit say
pub record ReadsSigns (text : List ℕ) (from : ℕ) (signs : Signs) : Type 0 where
  pub chomping : chomping_as signs.chomping ≡ (header_of (drop from text)).chomping
  pub step : signs.step ≡ (header_of (drop from text)).step
  pub there : signs.end ≡ from + (header_of (drop from text)).size
  pub within : signs.end ≤ length text

-- what a block's first line says behind `|` or `>`
pub record ReadsHeader (text : List ℕ) (from : ℕ) (header : Header) : Type 0 where
  pub chomping : chomping_as header.chomping ≡ (header_of (drop from text)).chomping
  pub step : header.step ≡ (header_of (drop from text)).step
  pub found : header.end ≢ no_place → IsRemark text (from + (header_of (drop from text)).size) header.end
  pub missed : header.end ≡ no_place → HasNoRemark text (from + (header_of (drop from text)).size)

-- a text that a tape takes, and a least column that it may have
abbrev pub IsShort : List ℕ → (least : ℕ) → Type 0
IsShort text least = (length text < 2 ^ 32) × (least ≤ length text + 1)

-- how far in the lines of a block stand that begin in a place, if its first line says so
abbrev pub StandsIn : List ℕ → (from step least : ℕ) → Option ℕ → Type 0
StandsIn text from step least found =
    (header : grammar.Header) → header.step ≡ step → indent_of header least (lines_of (drop from text)) ≡ found
