-- What is read by columns, in the words of the grammar.
use Rattle.std.specs.Prelude.{ℕ, suc, ◌<◌, ◌≡◌, ◌≢◌, ◌∷◌, ◌++◌, [], List, Some, false, true}
use Rattle.yaml_base.specs.PlainEvent.{mapping_end}
use Rattle.yaml_direct.specs.Gaps.{InLine}
use Rattle.yaml_direct.specs.Held.{names_of}
use Rattle.yaml_direct.specs.InBrackets.{Has, IsBehindNames}
use Rattle.yaml_direct.specs.Leaves.{IsLeaf}
use Rattle.yaml_direct.specs.Tokens.{IsCounted}
use Rattle.yaml_direct.specs.declared.block.Room as code
use Rattle.yaml_direct.specs.declared.block.Room.TheVariants as rooms
use Rattle.yaml_direct.specs.declared.leaf.Leaf.{Leaf}
use Rattle.yaml_direct.specs.declared.leaf.LeafKind.TheVariants.{Plain}
use Rattle.yaml_direct.specs.declared.reader.Reader.{Reader}
use Rattle.yaml_grammar.specs.Blocks.{Behind, BlockNode, Entries, Entry, Items, Room, anything, part, takes_columns}
use Rattle.yaml_grammar.specs.Blocks.{value}
use Rattle.yaml_grammar.specs.Bytes.{is_over}
use Rattle.yaml_grammar.specs.Gaps.{ends_its_line, follows, is_within, next}
use Rattle.yaml_grammar.specs.Names.{Names, names_at}
use Rattle.yaml_grammar.specs.Nodes.{Marked, Node, Nodes, Pairs, end_mark, mapping, mark, node_events, pairs_events}
use Rattle.yaml_grammar.specs.Nodes.{sequence}
use Rattle.yaml_grammar.specs.Plain.{as_key}

-- where a node stands
abbrev pub room_of : code.Room → Room
room_of rooms.Item = anything
room_of rooms.Part = part
room_of rooms.Value = value

-- What was read was added, no names are held behind it, and the next token stands in a place whose column is counted.
pub record Reads (old new : Reader) (to : ℕ) (What : List Marked → Type 0) : Type 0 where
  pub has : Has old new What
  pub counted : IsCounted new to

-- a node that begins in a place, and the next token behind it
pub record IsBlockNode (text : List ℕ) (d least : ℕ) (room : Room) (i j : ℕ) (es : List Marked) : Type 0 where
  pub node : Node
  pub stands : BlockNode text d least room i j node
  pub events : es ≡ node_events node

-- what stands behind an indicator of a collection in a column
pub record IsBehind (text : List ℕ) (d c : ℕ) (room : Room) (i j : ℕ) (es : List Marked) : Type 0 where
  pub node : Node
  pub stands : Behind text d c room i j node
  pub events : es ≡ node_events node

-- A mapping may begin here with a key in its line: behind the names that are held a token stands in that line, in a
-- place, and columns are counted.
pub record BeginsColumns (text : List ℕ) (r : Reader) (place : ℕ) : Type 0 where
  pub behind : IsBehindNames text false r place
  pub counted : IsCounted r r.start.index
  pub here : is_over text r.start.index ≡ false

-- Behind the names that are held, in their line or further in, the content of a node begins in a place. The node begins
-- where they do. Where it may be a mapping, it stands in their line.
pub record IsBlockNamed (text : List ℕ) (least : ℕ) (room : code.Room) (r : Reader) (place : ℕ) : Type 0 where
  pub end : ℕ
  pub names : names_at text false r.start.index ≡ Some (names_of r, end)
  pub goes : follows text least end ≡ true
  pub there : place ≡ next text end
  pub early : r.start.late ≡ false
  pub columns : room ≢ rooms.Value → BeginsColumns text r place

-- names that end their line, and the next token, which stands further in
pub record IsBelowNames (text : List ℕ) (least : ℕ) (r : Reader) (place : ℕ) : Type 0 where
  pub end : ℕ
  pub names : names_at text false r.start.index ≡ Some (names_of r, end)
  pub ends : ends_its_line text end ≡ true
  pub within : is_within text least (next text end) ≡ true
  pub there : place ≡ next text end
  pub early : r.start.late ≡ false
  pub counted : IsCounted r place

-- a collection by columns may begin in a room where the code lets it
abbrev pub Takes : code.Room → Room → Type 0
Takes room where' = room ≢ rooms.Value → takes_columns where' ≡ true

-- A leaf behind names, or names alone, in a line. The key begins where the names do.
pub data IsKeyLeaf (text : List ℕ) (r : Reader) (leaf : Leaf) : Type 0 where
  key_behind_names : (place : ℕ) → IsBehindNames text false r place → IsLeaf text as_key place leaf
      → InLine text r.start.index leaf.end → IsKeyLeaf text r leaf
  key_names_alone : names_at text false r.start.index ≡ Some (names_of r, leaf.end) → r.start.index < leaf.end
      → r.start.late ≡ false → leaf.kind ≡ Plain → leaf.begin ≡ leaf.end → leaf.stop ≡ leaf.end
      → InLine text r.start.index leaf.end → IsKeyLeaf text r leaf

-- such a leaf, and a mapping may begin with it
pub record BeginsWithKey (text : List ℕ) (r : Reader) (leaf : Leaf) : Type 0 where
  pub key : IsKeyLeaf text r leaf
  pub counted : IsCounted r r.start.index
  pub here : is_over text r.start.index ≡ false

-- a sequence in a column, with the names that begin in a place, whose first item begins in another
pub record IsSequence (text : List ℕ) (d c i : ℕ) (names : Names) (k j : ℕ) (es : List Marked) : Type 0 where
  pub nodes : Nodes
  pub stand : Items text d c k j nodes
  pub events : es ≡ node_events (sequence (mark text i) names nodes (end_mark text c j))

-- a mapping
pub record IsMapping (text : List ℕ) (d c i : ℕ) (names : Names) (k j : ℕ) (es : List Marked) : Type 0 where
  pub pairs : Pairs
  pub stand : Entries text d c k j pairs
  pub events : es ≡ node_events (mapping (mark text i) names pairs (end_mark text c j))

-- the entries of a mapping from a token on, and its end
pub record AreLastEntries (text : List ℕ) (d c i j : ℕ) (es : List Marked) : Type 0 where
  pub pairs : Pairs
  pub stand : Entries text d c i j pairs
  pub events : es ≡ pairs_events pairs ++ (mapping_end, end_mark text c j) ∷ []

-- an entry
pub record IsEntry (text : List ℕ) (d c i j : ℕ) (es : List Marked) : Type 0 where
  pub key : Node
  pub value : Node
  pub stands : Entry text d c i j key value
  pub events : es ≡ node_events key ++ node_events value

-- the value behind the `:` of a mapping's first key, the other entries, and the mapping's end
pub record AreEntriesBehind (text : List ℕ) (d c k j : ℕ) (es : List Marked) : Type 0 where
  pub place : ℕ
  pub first : Node
  pub pairs : Pairs
  pub stands : Behind text d c value (suc k) place first
  pub stand : Entries text d c place j pairs
  pub events : es ≡ node_events first ++ (pairs_events pairs ++ (mapping_end, end_mark text c j) ∷ [])
