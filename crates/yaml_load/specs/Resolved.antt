-- The tree of one document once anchors are taken out and each alias names the number of its target.
use Rattle.std.specs.Prelude.{ℕ, ◌+◌, List, Option, Some, None}
use Rattle.std.specs.Option.{option_map}
use Rattle.yaml_base.specs.DocTree.{DocNode, reference, word, list, mapping}
use Rattle.yaml_base.specs.DocTree.{DocNodes, DocPairs}
use Rattle.yaml_base.specs.DocTree as tree
use Rattle.yaml_base.specs.PlainEvent.{PlainScalar}
use Rattle.yaml_base.specs.Tree.{Node, alias_node, scalar_node, sequence_node, mapping_node, Nodes, no_nodes, node}
use Rattle.yaml_base.specs.Tree.{NodePairs, no_pairs, pair, size_of, target}

-- the scalar without its anchor
abbrev pub without_anchor : PlainScalar → PlainScalar
without_anchor s = record s { anchor = None }

-- a node in front of nodes, where both are there
abbrev pub node_then_nodes : Option DocNode → Option DocNodes → Option DocNodes
node_then_nodes (Some n) (Some nodes) = Some (tree.node n nodes)
node_then_nodes _ _ = None

-- a pair in front of pairs, where all are there
abbrev pub pair_then_pairs : Option DocNode → Option DocNode → Option DocPairs → Option DocPairs
pair_then_pairs (Some key) (Some value) (Some pairs) = Some (tree.pair key value pairs)
pair_then_pairs _ _ _ = None

-- the tree, where the first node has the given number, if each alias has a target by the given function
abbrev mutual
  pub resolved_from : (List ℕ → ℕ → Option ℕ) → Node → ℕ → Option DocNode
  resolved_from find (alias_node anchor) number = option_map reference (find anchor number)
  resolved_from find (scalar_node s) number = Some (word (without_anchor s))
  resolved_from find (sequence_node anchor tag nodes) number =
      option_map (list tag) (resolved_nodes find nodes (number + 1))
  resolved_from find (mapping_node anchor tag pairs) number =
      option_map (mapping tag) (resolved_pairs find pairs (number + 1))

  pub resolved_nodes : (List ℕ → ℕ → Option ℕ) → Nodes → ℕ → Option DocNodes
  resolved_nodes find no_nodes number = Some tree.no_nodes
  resolved_nodes find (node n nodes) number =
      node_then_nodes (resolved_from find n number) (resolved_nodes find nodes (number + size_of n))

  pub resolved_pairs : (List ℕ → ℕ → Option ℕ) → NodePairs → ℕ → Option DocPairs
  resolved_pairs find no_pairs number = Some tree.no_pairs
  resolved_pairs find (pair key value pairs) number =
      pair_then_pairs (resolved_from find key number) (resolved_from find value (number + size_of key))
      (resolved_pairs find pairs (number + size_of key + size_of value))

-- the document's tree, unless an alias in it has no target
abbrev pub resolved : Node → Option DocNode
resolved root = resolved_from (target root) root 0
