-- What is read in brackets, in the words of the grammar.
use Rattle.std.specs.Prelude.{ℕ, ◌≡◌, ◌≢◌, ◌<◌, ◌++◌, ◌⊎◌, ◌==◌, ◌||◌, [], Bool, true, false, List, Some, codes}
use Rattle.yaml_direct.specs.Bytes.{at}
use Rattle.yaml_direct.specs.Gaps.{InLine}
use Rattle.yaml_direct.specs.Held.{IsUnnamed, names_of}
use Rattle.yaml_direct.specs.Leaves.{IsLeaf}
use Rattle.yaml_direct.specs.declared.flow.Slot.{Slot}
use Rattle.yaml_direct.specs.declared.flow.Slot.TheVariants.{Entry, Item, Value}
use Rattle.yaml_direct.specs.declared.leaf.Leaf.{Leaf}
use Rattle.yaml_direct.specs.declared.leaf.LeafKind.TheVariants.{Plain}
use Rattle.yaml_direct.specs.declared.reader.Reader.{Reader}
use Rattle.yaml_grammar.specs.Brackets.{Brackets, FlowEntries, FlowEntry, FlowItem, FlowItems, FlowNode, FlowValue}
use Rattle.yaml_grammar.specs.Brackets.{has_colon, nothing_here}
use Rattle.yaml_grammar.specs.Bytes.{is_one_of, is_text}
use Rattle.yaml_grammar.specs.Gaps.{breaks, next}
use Rattle.yaml_grammar.specs.Names.{Names, names_at}
use Rattle.yaml_grammar.specs.Nodes.{Marked, Node, Nodes, Pairs, node_events, nodes_events, pairs_events}
use Rattle.yaml_grammar.specs.Plain.{in_brackets}
use Rattle.yaml_tape.specs.Pushes.{marked_on}

-- a reader reads this text, which is of the grammar's characters
pub record IsOf (text : List ℕ) (r : Reader) : Type 0 where
  pub same : r.text.now ≡ text
  pub allowed : is_text text ≡ true

-- Behind its names, in their line, the content of a node begins in a place. The node begins where they do.
pub record IsBehindNames (text : List ℕ) (flow : Bool) (r : Reader) (place : ℕ) : Type 0 where
  pub end : ℕ
  pub names : names_at text flow r.start.index ≡ Some (names_of r, end)
  pub in_line : breaks text end ≡ false
  pub there : place ≡ next text end
  pub early : r.start.late ≡ false
  pub line : InLine text r.start.index place

-- what was read was added, and no names are held behind it
pub record Has (old new : Reader) (What : List Marked → Type 0) : Type 0 where
  pub events : List Marked
  pub what : What events
  pub added : marked_on new.tape ≡ marked_on old.tape ++ events
  pub unnamed : IsUnnamed new

-- a collection whose names begin in a place, whose bracket stands in another, and that ends before a third
pub record IsBrackets (text : List ℕ) (d i : ℕ) (names : Names) (k j : ℕ) (es : List Marked) : Type 0 where
  pub node : Node
  pub stands : Brackets text d i names k j node
  pub events : es ≡ node_events node

-- a node that begins in a place, and the next token behind it stands in another
pub record IsFlowNode (text : List ℕ) (d i k : ℕ) (es : List Marked) : Type 0 where
  pub end : ℕ
  pub node : Node
  pub stands : FlowNode text d i end node
  pub there : k ≡ next text end
  pub events : es ≡ node_events node

-- a key, whose `:` is that token
pub record IsFlowKey (text : List ℕ) (d i k : ℕ) (es : List Marked) : Type 0 where
  pub end : ℕ
  pub node : Node
  pub stands : FlowNode text d i end node
  pub colon : has_colon text i end ≡ true
  pub there : k ≡ next text end
  pub events : es ≡ node_events node

-- an item, and no other stands there behind which a part ends
pub record IsFlowItem (text : List ℕ) (d i k : ℕ) (es : List Marked) : Type 0 where
  pub end : ℕ
  pub node : Node
  pub stands : FlowItem text d i end node
  pub only : (j : ℕ) (n : Node) → FlowItem text d i j n → is_one_of (codes ",]}") (at text (next text j)) ≡ true
      → j ≡ end
  pub there : k ≡ next text end
  pub events : es ≡ node_events node

-- a value, or nothing
pub record IsFlowValue (text : List ℕ) (d i k : ℕ) (es : List Marked) : Type 0 where
  pub end : ℕ
  pub node : Node
  pub stands : FlowValue text d i end node
  pub there : k ≡ next text end
  pub events : es ≡ node_events node

-- an entry, and no other stands there behind which a part ends
pub record IsFlowEntry (text : List ℕ) (d i k : ℕ) (es : List Marked) : Type 0 where
  pub end : ℕ
  pub key : Node
  pub value : Node
  pub stands : FlowEntry text d i end key value
  pub only : (j : ℕ) (m n : Node) → FlowEntry text d i j m n → is_one_of (codes ",]}") (at text (next text j)) ≡ true
      → j ≡ end
  pub there : k ≡ next text end
  pub events : es ≡ node_events key ++ node_events value

-- what stands in a slot: an item, a value, or an entry up to its `:`
abbrev pub IsFlowPart : List ℕ → Slot → (d i k : ℕ) → List Marked → Type 0
IsFlowPart text Item d i k es = IsFlowItem text d i k es
IsFlowPart text Entry d i k es = IsFlowKey text d i k es ⊎ ((at text k ≢ 58) × IsFlowEntry text d i k es)
IsFlowPart text Value d i k es = IsFlowNode text d i k es

-- an item, or a whole entry
abbrev pub IsFlowElement : List ℕ → Slot → (d i k : ℕ) → List Marked → Type 0
IsFlowElement text Item d i k es = IsFlowItem text d i k es
IsFlowElement text Entry d i k es = IsFlowEntry text d i k es
IsFlowElement text Value d i k es = ⊥

-- the items from a token on, up to the bracket that closes the sequence
pub record AreFlowItems (text : List ℕ) (d i j : ℕ) (es : List Marked) : Type 0 where
  pub nodes : Nodes
  pub stand : FlowItems text d i j nodes
  pub events : es ≡ nodes_events nodes

-- the entries
pub record AreFlowEntries (text : List ℕ) (d i j : ℕ) (es : List Marked) : Type 0 where
  pub pairs : Pairs
  pub stand : FlowEntries text d i j pairs
  pub events : es ≡ pairs_events pairs

abbrev pub AreFlowParts : List ℕ → Slot → (d i j : ℕ) → List Marked → Type 0
AreFlowParts text Item d i j es = AreFlowItems text d i j es
AreFlowParts text Entry d i j es = AreFlowEntries text d i j es
AreFlowParts text Value d i j es = ⊥

-- A leaf behind names, as far as it goes in its line, or names alone. The node begins where its names do.
pub data IsFlowLeaf (text : List ℕ) (r : Reader) (leaf : Leaf) : Type 0 where
  behind_names : (place : ℕ) → IsBehindNames text true r place → IsLeaf text in_brackets place leaf
      → InLine text r.start.index leaf.end → IsFlowLeaf text r leaf
  names_alone : names_at text true r.start.index ≡ Some (names_of r, leaf.end) → r.start.index < leaf.end
      → r.start.late ≡ false → leaf.kind ≡ Plain → leaf.begin ≡ leaf.end → leaf.stop ≡ leaf.end
      → is_one_of (codes ",]}:") (at text (next text leaf.end)) ≡ true → InLine text r.start.index leaf.end
      → IsFlowLeaf text r leaf

-- a collection in brackets begins with this byte
abbrev pub opens : ℕ → Bool
opens c = c == 91 || c == 123

-- a leaf begins with this byte that is no plain text
abbrev pub quotes : ℕ → Bool
quotes c = c == 34 || (c == 39 || c == 42)

-- a key alone has nothing as its value
abbrev pub alone_events : List ℕ → Slot → (k : ℕ) → List Marked
alone_events text Item k = []
alone_events text Entry k = node_events (nothing_here text k)
alone_events text Value k = []

-- the next token is no `:`, and what stands in its place alone was added
pub record IsAlone (text : List ℕ) (slot : Slot) (old new : Reader) (k j : ℕ) : Type 0 where
  pub other : at text k ≢ 58
  pub there : j ≡ k
  pub added : marked_on new.tape ≡ marked_on old.tape ++ alone_events text slot k
  pub unnamed : IsUnnamed new

-- the bracket that closes what is made of these
abbrev pub closing_of : Slot → ℕ
closing_of Item = 93
closing_of Entry = 125
closing_of Value = 0
