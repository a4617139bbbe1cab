-- The tree of one document, its events, and the target of an alias.
use Rattle.std.specs.Prelude.{ℕ, ◌+◌, max, List, [], ◌∷◌, ◌++◌, length, Option, None, Some, nat_lt, ◌&&◌, if◌then◌else◌}
use Rattle.std.specs.Str.{bytes_eq}
use Rattle.yaml_base.specs.PlainEvent.{PlainScalar, PlainEvent, alias, scalar}
use Rattle.yaml_base.specs.PlainEvent.{sequence_start, sequence_end, mapping_start, mapping_end}

-- a node is an alias, a scalar, a list of nodes, or pairs of nodes
mutual
  pub data Node : Type 0 where
    alias_node : (anchor : List ℕ) → Node
    scalar_node : PlainScalar → Node
    sequence_node : (anchor : Option (List ℕ)) → (tag : Option (List ℕ)) → Nodes → Node
    mapping_node : (anchor : Option (List ℕ)) → (tag : Option (List ℕ)) → NodePairs → Node

  pub data Nodes : Type 0 where
    no_nodes : Nodes
    node : Node → Nodes → Nodes

  pub data NodePairs : Type 0 where
    no_pairs : NodePairs
    pair : Node → Node → NodePairs → NodePairs

-- the events of a node, and then the rest
abbrev mutual
  pub node_events : Node → List PlainEvent → List PlainEvent
  node_events (alias_node anchor) rest = alias anchor ∷ rest
  node_events (scalar_node s) rest = scalar s ∷ rest
  node_events (sequence_node anchor tag nodes) rest =
      sequence_start anchor tag ∷ nodes_events nodes (sequence_end ∷ rest)
  node_events (mapping_node anchor tag pairs) rest =
      mapping_start anchor tag ∷ pairs_events pairs (mapping_end ∷ rest)

  pub nodes_events : Nodes → List PlainEvent → List PlainEvent
  nodes_events no_nodes rest = rest
  nodes_events (node n nodes) rest = node_events n (nodes_events nodes rest)

  pub pairs_events : NodePairs → List PlainEvent → List PlainEvent
  pairs_events no_pairs rest = rest
  pairs_events (pair key value pairs) rest = node_events key (node_events value (pairs_events pairs rest))

-- how many events a node has
abbrev pub size_of : Node → ℕ
size_of n = length (node_events n [])

-- the anchor of the node with this number, and the number
abbrev pub anchor_at : Option (List ℕ) → ℕ → List (List ℕ × ℕ)
anchor_at None number = []
anchor_at (Some anchor) number = (anchor, number) ∷ []

-- The anchors of a tree, in order, each beside the number of its node, where the first node has the given number.
-- A node's number is the place of its first event.
abbrev mutual
  pub anchors_of : Node → ℕ → List (List ℕ × ℕ)
  anchors_of (alias_node anchor) number = []
  anchors_of (scalar_node s) number = anchor_at s.anchor number
  anchors_of (sequence_node anchor tag nodes) number = anchor_at anchor number ++ anchors_of_nodes nodes (number + 1)
  anchors_of (mapping_node anchor tag pairs) number = anchor_at anchor number ++ anchors_of_pairs pairs (number + 1)

  pub anchors_of_nodes : Nodes → ℕ → List (List ℕ × ℕ)
  anchors_of_nodes no_nodes number = []
  anchors_of_nodes (node n nodes) number = anchors_of n number ++ anchors_of_nodes nodes (number + size_of n)

  pub anchors_of_pairs : NodePairs → ℕ → List (List ℕ × ℕ)
  anchors_of_pairs no_pairs number = []
  anchors_of_pairs (pair key value pairs) number =
      anchors_of key number
      ++ (anchors_of value (number + size_of key) ++ anchors_of_pairs pairs (number + size_of key + size_of value))

-- the greater of two numbers, each of which may be missing
abbrev pub greater : Option ℕ → Option ℕ → Option ℕ
greater None found = found
greater (Some n) None = Some n
greater (Some n) (Some m) = Some (max n m)

-- the number, if it is below a bound and stands beside the anchor
abbrev pub number_below : ℕ → List ℕ → List ℕ × ℕ → Option ℕ
number_below bound anchor x = if bytes_eq x.0 anchor && nat_lt x.1 bound then Some x.1 else None

-- the greatest number below a bound that stands beside the anchor
abbrev pub greatest_below : ℕ → List ℕ → List (List ℕ × ℕ) → Option ℕ
greatest_below bound anchor [] = None
greatest_below bound anchor (x ∷ xs) = greater (number_below bound anchor x) (greatest_below bound anchor xs)

-- the target of an alias with this anchor and number: the greatest number below it of a node with the anchor
abbrev pub target : Node → List ℕ → ℕ → Option ℕ
target root anchor number = greatest_below number anchor (anchors_of root 0)
