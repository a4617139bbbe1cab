-- Keys that stand in a line, in the words of the grammar.
use Rattle.std.specs.Prelude.{ℕ, ◌≡◌, ◌==◌, ◌||◌, not, Bool, List}
use Rattle.yaml_grammar.specs.Blocks.{Key}
use Rattle.yaml_grammar.specs.Nodes.{Marked, Node, node_events}

-- a key that begins in a place, and its `:` stands in another
pub record IsKey (text : List ℕ) (d i colon : ℕ) (es : List Marked) : Type 0 where
  pub node : Node
  pub stands : Key text d i colon node
  pub events : es ≡ node_events node

-- the content of a node may begin with this byte: neither a space, a line feed or a comment, nor an anchor or a tag
abbrev pub begins_content : ℕ → Bool
begins_content c = not (c == 32 || (c == 10 || (c == 35 || (c == 38 || c == 33))))
