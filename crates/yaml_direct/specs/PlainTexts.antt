-- Plain text by columns, line by line, in the words of the grammar.
use Rattle.std.specs.Prelude.{ℕ, ◌+◌, ◌-◌, ◌≡◌, ◌≢◌, ◌≤◌, ◌⊎◌, not, ◌&&◌, ◌==◌, Bool, true, false, List, ◌++◌}
use Rattle.std.specs.Prelude.{Some, None, codes, if◌then◌else◌, slice_range}
use Rattle.yaml_direct.specs.Bytes.{at, stops_plain}
use Rattle.yaml_direct.specs.Lines.{AreFeeds, PlainLine}
use Rattle.yaml_grammar.specs.Bytes.{is_gap, is_one_line, is_one_of, is_over}
use Rattle.yaml_grammar.specs.Folding.{Rest, folded}
use Rattle.yaml_grammar.specs.Gaps.{breaks, ends_its_line, is_within, next}
use Rattle.yaml_grammar.specs.Plain.{begins_plain, by_columns, in_brackets, plain_at}

-- plain text begins in a place, and its first line ends in another
pub record IsFirstLine (text : List ℕ) (flow : Bool) (from end : ℕ) : Type 0 where
  pub begins : begins_plain text flow from ≡ true
  pub goes : stops_plain text flow from ≡ false
  pub some : at text from ≢ 32
  pub line : PlainLine text flow from end

-- so many line feeds stand between two places, with spaces around them, and neither at the second
pub record HasFeeds (text : List ℕ) (count from end : ℕ) : Type 0 where
  pub feeds : AreFeeds text count from end
  pub no_space : at text end ≢ 32
  pub no_feed : at text end ≢ 10

-- a further line behind one that ends in a place: so many line feeds, and bytes that say themselves
pub record IsFurtherLine (text : List ℕ) (flow : Bool) (end next' stop : ℕ) (old new : List ℕ) : Type 0 where
  pub count : ℕ
  pub feeds : AreFeeds text count end next'
  pub goes : stops_plain text flow next' ≡ false
  pub some : at text next' ≢ 32
  pub line : PlainLine text flow next' stop
  pub said : new ≡ old ++ (folded count ++ slice_range text next' stop)

-- no further line: a comment comes before the token that follows, or plain text stops there
pub record HasNoLine (text : List ℕ) (flow : Bool) (end next' : ℕ) : Type 0 where
  pub count : ℕ
  pub stop : ℕ
  pub feeds : HasFeeds text count end stop
  pub none : (stop ≢ next') ⊎ (stops_plain text flow next' ≡ true)

-- plain text may end here: its line ends, and no token stands behind it in the least column or further in
abbrev pub ends_plain : List ℕ → (least end : ℕ) → Bool
ends_plain text least end = ends_its_line text end && not (is_within text least (next text end))

-- behind a plain text something stands in its line, or as far in as its lines
pub record LeavesPlain (text : List ℕ) (least from : ℕ) : Type 0 where
  pub end : ℕ
  pub said : List ℕ
  pub low : from ≤ end
  pub read : plain_at text (by_columns least) from ≡ Some (end - from, said)
  pub left : ends_plain text least end ≡ false

-- `:` stands here before a byte that is no gap
abbrev pub is_tight : List ℕ → ℕ → Bool
is_tight text i = at text i == 58 && not (is_gap (at text (i + 1)))

-- Plain text in brackets that goes on in no later line. It is none where such a `:` stands behind it in its line.
abbrev pub flow_line : List ℕ → (from end : ℕ) → Rest
flow_line text from end =
    if is_tight text (next text end) then None else Some (end - from, slice_range text from end)

-- plain text in brackets whose first line ends in a place, and the next token, which stands in a later line
pub record IsBrokenLine (text : List ℕ) (from end next' : ℕ) : Type 0 where
  pub first : IsFirstLine text true from end
  pub broken : breaks text end ≡ true
  pub there : next' ≡ next text end
  pub here : is_over text next' ≡ false

-- Plain text over lines in brackets is none, or ends before a token that ends no part of a collection.
pub record LeavesFlow (text : List ℕ) (from : ℕ) : Type 0 where
  pub end : ℕ
  pub said : List ℕ
  pub low : from ≤ end
  pub read : (plain_at text in_brackets from ≡ None) ⊎ (plain_at text in_brackets from ≡ Some (end - from, said))
  pub lines : is_one_line text from (next text end) ≡ false
  pub left : is_one_of (codes ",]}") (at text (next text end)) ≡ false
