-- What stands between quotes, as it is defined, from a place on.
use Rattle.std.specs.Prelude.{ℕ, zero, suc, ◌+◌, ◌-◌, ◌<◌, ◌≤◌, ◌≡◌, ◌≢◌, ◌⊎◌, ◌++◌, Bool, false, true, not, ◌==◌}
use Rattle.std.specs.Prelude.{◌&&◌, ◌||◌}
use Rattle.std.specs.Prelude.{List, Option, Some, None, MatchOption, drop, length, encode_utf8, replicate, slice_range}
use Rattle.std.specs.Prelude.{if◌then◌else◌}
use Rattle.std.specs.Char.{digit_value}
use Rattle.yaml_base.specs.QuotedLines.{digits, none}
use Rattle.yaml_base.specs.declared.event.ScalarStyle.{ScalarStyle}
use Rattle.yaml_base.specs.declared.event.ScalarStyle.TheVariants as style
use Rattle.yaml_direct.specs.Added.{AddsScalar}
use Rattle.yaml_direct.specs.Bytes.{at}
use Rattle.yaml_direct.specs.Places.{no_place}
use Rattle.yaml_direct.specs.declared.leaf.Leaf.{Leaf}
use Rattle.yaml_direct.specs.declared.leaf.LeafKind.{LeafKind}
use Rattle.yaml_direct.specs.declared.leaf.LeafKind.TheVariants.{Alias, Escaped, Open, Plain, Quoted}
use Rattle.yaml_direct.specs.declared.quote.Quote.{Quote}
use Rattle.yaml_direct.specs.declared.quote.Quote.TheVariants.{Single, Double}
use Rattle.yaml_direct.specs.declared.reader.Reader.{Reader}
use Rattle.yaml_grammar.specs.Bytes.{is_blank, parts}
use Rattle.yaml_grammar.specs.Folding.{Passed, Rest, escaped, feeds, folded, nothing_passed, with_bytes}
use Rattle.yaml_grammar.specs.Quotes.{double_rest, single_rest}

-- the quote itself
abbrev pub quote_of : Quote → ℕ
quote_of Single = 39
quote_of Double = 34

-- a byte that does not stand for itself between such quotes
abbrev pub is_stop : Quote → ℕ → Bool
is_stop Single c = c == 39 || c == 10
is_stop Double c = c == 34 || (c == 92 || c == 10)

-- each byte between two places stands for itself
abbrev pub IsRun : List ℕ → Quote → (i j : ℕ) → Type 0
IsRun text quote i j = (k : ℕ) → i ≤ k → k < j → is_stop quote (at text k) ≡ false

-- such bytes end here
abbrev pub EndsRun : List ℕ → Quote → ℕ → Type 0
EndsRun text quote j = (is_stop quote (at text j) ≡ true) ⊎ (length text ≤ j)

-- a doubled quote stands here, or a backslash that ends no line
abbrev pub is_other : List ℕ → Quote → ℕ → Bool
is_other text Single i = at text i == 39 && at text (i + 1) == 39
is_other text Double i =
    at text i == 92 && not (at text (i + 1) == 10 || (at text (i + 1) == 13 || at text (i + 1) == 0))

-- From the end of a run on the quote is found that closes the scalar in this line: it stands here, or it is found
-- behind a byte that stands for another, the next one, and a run.
pub data Closes (text : List ℕ) (quote : Quote) : (i j : ℕ) → Type 0 where
  closed : {i : ℕ} → at text i ≡ quote_of quote → is_other text quote i ≡ false → Closes text quote i i
  later : {i j : ℕ} (k : ℕ) → is_other text quote i ≡ true → i + 2 ≤ k → IsRun text quote (i + 2) k
      → Closes text quote k j → Closes text quote i j

-- the scalar whose text begins in a place is closed by the quote in another, in the same line
pub record ClosesInLine (text : List ℕ) (quote : Quote) (i j : ℕ) : Type 0 where
  pub first : ℕ
  pub forward : i ≤ first
  pub run : IsRun text quote i first
  pub closes : Closes text quote first j

-- the rest of what stands between such quotes, behind what was passed, where a line begins or not
abbrev pub quoted_rest : Quote → (begins : Bool) → Passed → List ℕ → Rest
quoted_rest Single begins passed bytes = single_rest false begins passed bytes
quoted_rest Double begins passed bytes = double_rest none begins passed bytes

-- the rest from a place on, where no line begins and nothing was passed
abbrev pub quoted_from : List ℕ → Quote → ℕ → Rest
quoted_from text quote i = quoted_rest quote false nothing_passed (drop i text)

-- the rest from a place on, where so many digits of an escape are to come
abbrev pub digits_from : List ℕ → (count i : ℕ) → Rest
digits_from text count i = double_rest (digits count 0) false nothing_passed (drop i text)

-- so many digits that stand here say the code of a character, or none
abbrev pub SayCode : List ℕ → (count i : ℕ) → Option ℕ → Type 0
SayCode text count i found =
    MatchOption found (digits_from text count i ≡ None) (λ code. (code ≤ 1114111)
    × (digits_from text count i ≡ with_bytes count (encode_utf8 code) (quoted_from text Double (i + count))))

-- digits stand between two places
abbrev pub AreDigits : List ℕ → (i j : ℕ) → Type 0
AreDigits text i j = (k : ℕ) → i ≤ k → k < j → digit_value (at text k) < 16

-- how many digits stand behind this byte of an escape
abbrev pub digits_of : ℕ → ℕ
digits_of c = if c == 120 then 2 else if c == 117 then 4 else if c == 85 then 8 else 0

-- an escape that stands here, with so many digits, says the code of a character, or none
abbrev pub SaysCode : List ℕ → (i count : ℕ) → Option ℕ → Type 0
SaysCode text i count found =
    MatchOption found (quoted_from text Double i ≡ None) (λ code. (code ≤ 1114111)
    × (quoted_from text Double i ≡ with_bytes (2 + count) (encode_utf8 code) (quoted_from text Double (i + 2 + count))))

-- what stands from a place up to another was put behind a text, and the rest stands behind it
pub record Unquotes (text : List ℕ) (quote : Quote) (i j : ℕ) (old new : List ℕ) : Type 0 where
  pub said : List ℕ
  pub added : new ≡ old ++ said
  pub rest : quoted_from text quote i ≡ with_bytes (j - i) said (quoted_from text quote j)

-- a blank, or the carriage return that may stand before a line feed
abbrev pub is_end_blank : ℕ → Bool
is_end_blank c = c == 32 || (c == 9 || c == 13)

-- Between quotes, a line begins in a place, and blanks stand there up to another. No documents are parted there.
pub record IsLineBegin (text : List ℕ) (i j : ℕ) : Type 0 where
  pub whole : parts (drop i text) ≡ false
  pub blanks : (k : ℕ) → i ≤ k → k < j → is_blank (at text k) ≡ true
  pub dark : is_blank (at text j) ≡ false

-- one line feed was passed, or one behind a backslash, which is none
abbrev pub passed_by : ℕ → Passed
passed_by zero = escaped 0
passed_by (suc count) = feeds (suc count)

-- what so many further line feeds say behind that
abbrev pub said_break : (passed count : ℕ) → List ℕ
said_break zero count = replicate count 10
said_break (suc passed) count = folded (count + 1)

-- the same behind what was passed
pub record UnquotesBehind (text : List ℕ) (quote : Quote) (passed : Passed) (i j : ℕ) (old new : List ℕ) : Type 0 where
  pub said : List ℕ
  pub added : new ≡ old ++ said
  pub rest : quoted_rest quote false passed (drop i text) ≡ with_bytes (j - i) said (quoted_from text quote j)

-- a quote stands here that closes the scalar
abbrev pub is_closing : List ℕ → Quote → ℕ → Bool
is_closing text quote i = at text i == quote_of quote && not (is_other text quote i)

-- up to a place, or none where nothing can be read
abbrev pub UnquotesIf : List ℕ → Quote → (i j : ℕ) → (old new : List ℕ) → Type 0
UnquotesIf text quote i j old new =
    (j ≢ no_place → Unquotes text quote i j old new) × (j ≡ no_place → quoted_from text quote i ≡ None)

-- the style of a scalar between such quotes
abbrev pub style_of : Quote → ScalarStyle
style_of Single = style.SingleQuoted
style_of Double = style.DoubleQuoted

-- what was found between quotes: a text that stands for itself, one of which some bytes stand for others, or none that
-- is closed in this line
abbrev pub HasKind : List ℕ → Quote → (begin stop end : ℕ) → LeafKind → Type 0
HasKind text quote begin stop end Plain = ⊥
HasKind text quote begin stop end Alias = ⊥
HasKind text quote begin stop end (Quoted q) =
    (q ≡ quote) × (quoted_from text quote begin ≡ Some (end - begin, slice_range text begin stop))
HasKind text quote begin stop end (Escaped q) =
    (q ≡ quote) × ((end ≡ stop + 1) × ClosesInLine text quote begin stop)
HasKind text quote begin stop end (Open q) = q ≡ quote

-- a scalar whose quote stands in a place, as it was found
pub record IsQuotedLeaf (text : List ℕ) (quote : Quote) (i : ℕ) (leaf : Leaf) : Type 0 where
  pub begins : leaf.begin ≡ i + 1
  pub kind : HasKind text quote leaf.begin leaf.stop leaf.end leaf.kind

-- a scalar whose text begins in a place, and ends before another, was added as it is defined
pub record AddsQuoted (old new : Reader) (quote : Quote) (from end : ℕ) : Type 0 where
  pub said : List ℕ
  pub read : quoted_from old.text.now quote from ≡ Some (end - from, said)
  pub added : AddsScalar old new said (style_of quote) end
