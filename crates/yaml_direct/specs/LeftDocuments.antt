-- What does not stand of a document, in the words of the grammar.
use Rattle.std.specs.Prelude.{ℕ, ◌+◌, ◌≡◌, Bool, false, true, List, Some}
use Rattle.yaml_direct.specs.Bytes.{at}
use Rattle.yaml_direct.specs.Standing.{HasRoot}
use Rattle.yaml_grammar.specs.Blocks.{BlockNode, anything}
use Rattle.yaml_grammar.specs.Bytes.{is_over}
use Rattle.yaml_grammar.specs.Documents.{Earlier, Root, begins_document, directive_end, most_nestings}
use Rattle.yaml_grammar.specs.Gaps.{ends_its_line}
use Rattle.yaml_grammar.specs.Nodes.{Node}

-- `%` stands in a place, and where a directive may stand it begins none that ends its line
pub record LeavesDirective (text : List ℕ) (directed : Bool) (i : ℕ) : Type 0 where
  pub sign : at text i ≡ 37
  pub none : directed ≡ true → (e : ℕ) → directive_end text i ≡ Some e → ends_its_line text e ≡ false

-- no root stands behind the `---` that ends here, with the document's end behind it
abbrev pub NoRoot : List ℕ → (i : ℕ) → Type 0
NoRoot text i = (j : ℕ) (n : Node) → Root text i j n → is_over text j ≡ true → ⊥

-- no node stands here that is a root without `---`, with the document's end behind it
abbrev pub NoBareRoot : List ℕ → (i : ℕ) → Type 0
NoBareRoot text i = (j : ℕ) (n : Node) → BlockNode text most_nestings 0 anything i j n → is_over text j ≡ true → ⊥

-- A document that begins in a place has no root in another: none behind the `---` there, and, where it may be bare and
-- the places are one, none without.
pub record LeavesContent (text : List ℕ) (bare : Bool) (place i : ℕ) : Type 0 where
  pub behind_dashes : begins_document text i ≡ true → NoRoot text (i + 3)
  pub without_dashes : bare ≡ true → i ≡ place → is_over text i ≡ false → NoBareRoot text i

-- no document stands here
abbrev pub NoDocument : List ℕ → Earlier → (i : ℕ) → Type 0
NoDocument text earlier i = (j : ℕ) (n : Node) → HasRoot text earlier i n j → ⊥
