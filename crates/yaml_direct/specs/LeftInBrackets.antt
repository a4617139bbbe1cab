-- What is left in brackets, in the words of the grammar: nothing stands there, or what no end of a part follows.
use Rattle.std.specs.Prelude.{ℕ, ◌+◌, ◌≡◌, ◌≤◌, ◌⊎◌, Bool, true, false, List, codes, length}
use Rattle.yaml_direct.specs.Bytes.{at}
use Rattle.yaml_direct.specs.InBrackets.{opens, quotes}
use Rattle.yaml_direct.specs.Quoted.{EndsRun, IsRun, is_other, quote_of}
use Rattle.yaml_direct.specs.declared.flow.Slot.{Slot}
use Rattle.yaml_direct.specs.declared.flow.Slot.TheVariants.{Entry, Item, Value}
use Rattle.yaml_direct.specs.declared.quote.Quote.{Quote}
use Rattle.yaml_grammar.specs.Brackets.{FlowEntries, FlowEntry, FlowItem, FlowItems, FlowNode, FlowValue, has_colon}
use Rattle.yaml_grammar.specs.Bytes.{is_one_of}
use Rattle.yaml_grammar.specs.Gaps.{next}
use Rattle.yaml_grammar.specs.Nodes.{Node, Nodes, Pairs}

-- an item, an entry or a value ends before this byte
abbrev pub ends_part : ℕ → Bool
ends_part c = is_one_of (codes ",]}") c

-- names may stand alone before this byte
abbrev pub ends_names : ℕ → Bool
ends_names c = is_one_of (codes ",]}:") c

-- behind a node that ends in a place stands neither the end of a part nor the `:` of a key
pub record IsCutOff (text : List ℕ) (i j : ℕ) : Type 0 where
  pub part : ends_part (at text (next text j)) ≡ false
  pub key : has_colon text i j ≡ false

-- no node stands here, or one that is cut off
pub record LeavesNode (text : List ℕ) (i : ℕ) : Type 0 where
  pub cut : (d j : ℕ) (n : Node) → FlowNode text d i j n → IsCutOff text i j

-- nothing begins here, and no part ends
pub record HasNothing (text : List ℕ) (i : ℕ) : Type 0 where
  pub node : LeavesNode text i
  pub part : ends_part (at text i) ≡ false

-- no value stands here behind which a part ends
pub record LeavesValue (text : List ℕ) (d i : ℕ) : Type 0 where
  pub cut : (j : ℕ) (n : Node) → FlowValue text d i j n → ends_part (at text (next text j)) ≡ false

-- no item stands here behind which a part ends
pub record LeavesItem (text : List ℕ) (d i : ℕ) : Type 0 where
  pub cut : (j : ℕ) (n : Node) → FlowItem text d i j n → ends_part (at text (next text j)) ≡ false

-- no entry, as a pair or as a key alone
pub record LeavesEntry (text : List ℕ) (d i : ℕ) : Type 0 where
  pub cut : (j : ℕ) (m n : Node) → FlowEntry text d i j m n → ends_part (at text (next text j)) ≡ false

-- no node, within so many nestings
pub record LeavesNodeWithin (text : List ℕ) (d i : ℕ) : Type 0 where
  pub cut : (j : ℕ) (n : Node) → FlowNode text d i j n → ends_part (at text (next text j)) ≡ false

-- by what may stand here
abbrev pub LeavesPart : List ℕ → Slot → (d i : ℕ) → Type 0
LeavesPart text Item d i = LeavesItem text d i
LeavesPart text Entry d i = LeavesEntry text d i
LeavesPart text Value d i = LeavesNodeWithin text d i

-- no items, and no entries, stand here up to a bracket that closes them
abbrev pub LeavesParts : List ℕ → Slot → (d i : ℕ) → Type 0
LeavesParts text Item d i = (e : ℕ) (ns : Nodes) → FlowItems text d i e ns → ⊥
LeavesParts text Entry d i = (e : ℕ) (ps : Pairs) → FlowEntries text d i e ps → ⊥
LeavesParts text Value d i = ⊥

-- From the end of a run on, bytes between quotes that stand for others and runs go up to the end of a run.
pub data Passes (text : List ℕ) (quote : Quote) : (i j : ℕ) → Type 0 where
  passed : {i : ℕ} → Passes text quote i i
  other : {i j : ℕ} (k : ℕ) → is_other text quote i ≡ true → i + 2 ≤ k → IsRun text quote (i + 2) k
      → Passes text quote k j → Passes text quote i j

-- a scalar whose text begins in a place is not closed in its line, which ends in another or goes on there
pub record IsLeftOpen (text : List ℕ) (quote : Quote) (i j : ℕ) : Type 0 where
  pub first : ℕ
  pub forward : i ≤ first
  pub run : IsRun text quote i first
  pub passes : Passes text quote first j
  pub ends : EndsRun text quote j
  pub alone : is_other text quote j ≡ false
  pub byte : (at text j ≡ quote_of quote → ⊥) ⊎ (length text ≤ j)

-- plain text may begin here, and names that stand before are no node alone
pub record IsOtherByte (text : List ℕ) (start i : ℕ) : Type 0 where
  pub bracket : opens (at text i) ≡ false
  pub quote : quotes (at text i) ≡ false
  pub alone : (ends_names (at text i) ≡ false) ⊎ (start ≡ i)
