-- A leaf that was found in a line, in the words of the grammar.
use Rattle.std.specs.Prelude.{ℕ, ◌+◌, ◌-◌, ◌≡◌, ◌≤◌, Bool, true, false, List, length, Some, slice_range}
use Rattle.yaml_direct.specs.PlainTexts.{IsFirstLine, flow_line}
use Rattle.yaml_direct.specs.Quoted.{IsQuotedLeaf, quote_of}
use Rattle.yaml_direct.specs.declared.leaf.Leaf.{Leaf}
use Rattle.yaml_direct.specs.declared.leaf.LeafKind.{LeafKind}
use Rattle.yaml_direct.specs.declared.leaf.LeafKind.TheVariants.{Alias, Open, Plain}
use Rattle.yaml_direct.specs.declared.quote.Quote.{Quote}
use Rattle.yaml_grammar.specs.Bytes.{at}
use Rattle.yaml_grammar.specs.Gaps.{breaks}
use Rattle.yaml_grammar.specs.Names.{name_end}
use Rattle.yaml_grammar.specs.Plain.{Context, as_key, in_brackets, is_flow, plain_at}

-- its text and its end are in this order behind a place, within the text
abbrev pub IsPart : List ℕ → ℕ → Leaf → Type 0
IsPart text from leaf =
    (from ≤ leaf.begin) × ((leaf.begin ≤ leaf.stop) × ((leaf.stop ≤ leaf.end) × (leaf.end ≤ length text)))

-- plain text that stands in a place; as a key it ends in its line, and in brackets it does so unless a line ends behind
pub record IsPlainLeaf (text : List ℕ) (flow : Bool) (i : ℕ) (leaf : Leaf) : Type 0 where
  pub kind : leaf.kind ≡ Plain
  pub begins : leaf.begin ≡ i
  pub stops : leaf.stop ≡ leaf.end
  pub first : IsFirstLine text flow i leaf.end
  pub key : flow ≡ false → plain_at text as_key i ≡ Some (leaf.end - i, slice_range text i leaf.end)
  pub part : flow ≡ true → breaks text leaf.end ≡ false → plain_at text in_brackets i ≡ flow_line text i leaf.end

-- quotes that are not closed in their line
abbrev pub is_open : LeafKind → Bool
is_open (Open quote) = true
is_open kind = false

-- an alias that stands in a place
pub record IsAliasLeaf (text : List ℕ) (flow : Bool) (i : ℕ) (leaf : Leaf) : Type 0 where
  pub kind : leaf.kind ≡ Alias
  pub begins : leaf.begin ≡ i + 1
  pub stops : leaf.stop ≡ leaf.end
  pub name : name_end text flow (i + 1) ≡ Some leaf.end

-- a leaf that stands in a place, as far as it goes in its line
pub data IsFound (text : List ℕ) (flow : Bool) (i : ℕ) (leaf : Leaf) : Type 0 where
  plain_text : IsPlainLeaf text flow i leaf → IsFound text flow i leaf
  an_alias : at text i ≡ 42 → IsAliasLeaf text flow i leaf → IsFound text flow i leaf
  in_quotes : (quote : Quote) → at text i ≡ quote_of quote → IsQuotedLeaf text quote i leaf
      → IsFound text flow i leaf

-- a leaf that stands in a place and ends in its line
pub data IsLeaf (text : List ℕ) (context : Context) (i : ℕ) (leaf : Leaf) : Type 0 where
  whole_plain : leaf.kind ≡ Plain → leaf.begin ≡ i → leaf.stop ≡ leaf.end → i ≤ leaf.end
      → plain_at text context i ≡ Some (leaf.end - i, slice_range text i leaf.end) → IsLeaf text context i leaf
  whole_alias : at text i ≡ 42 → IsAliasLeaf text (is_flow context) i leaf → IsLeaf text context i leaf
  whole_quotes : (quote : Quote) → at text i ≡ quote_of quote → IsQuotedLeaf text quote i leaf
      → (leaf.kind ≡ Open quote → ⊥) → IsLeaf text context i leaf
