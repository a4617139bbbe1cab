-- What the tree of a document is where its merge keys are applied: how its nodes are made of those that were there.
use Rattle.std.specs.Prelude.{◌≡◌, ℕ, ◌+◌, List, [], ◌∷◌, length, if◌then◌else◌, Bool, false, true, ◌||◌}
use Rattle.std.specs.Prelude.{Option, Some}
use Rattle.std.specs.Option.{option_map_or}
use Rattle.yaml_base.specs.DocTree.{DocNode, reference, word, list, mapping, DocNodes, DocPairs, IsTreeOf}
use Rattle.yaml_base.specs.DocTree.{events_of, node_of}
use Rattle.yaml_base.specs.DocTree as tree
use Rattle.yaml_base.specs.PlainDocument.{PlainDocument}
use Rattle.yaml_base.specs.Tree.{Node, alias_node, scalar_node, sequence_node, mapping_node, Nodes, no_nodes, node}
use Rattle.yaml_base.specs.Tree.{NodePairs, no_pairs, pair}
use Rattle.yaml_load.specs.Resolved.{resolved, without_anchor}
use Rattle.yaml_merge.specs.MergedTree.{is_merge_key}
use Rattle.yaml_merge.specs.Names.{IsNamed, name_of}

-- the node that a node of the tree is, or that it stands for
abbrev pub meant : (root : DocNode) → DocNode → Option DocNode
meant root (reference target) = node_of root target
meant root n = Some n

-- its number, where the node itself has this one
abbrev pub meant_number : DocNode → (number : ℕ) → ℕ
meant_number (reference target) number = target
meant_number n number = number

-- the key is a merge key, or stands for one
abbrev pub is_merging : (root : DocNode) → (key : DocNode) → Bool
is_merging root key = option_map_or is_merge_key (meant root key) false

-- a node with its number
abbrev pub Numbered : Type 0
Numbered = ℕ × DocNode

-- the keys and values at no merge key of pairs, of which the first key has this number
abbrev pub own_entries : (root : DocNode) → (number : ℕ) → DocPairs → List (Numbered × Numbered)
own_entries root number tree.no_pairs = []
own_entries root number (tree.pair k v ps) =
    if is_merging root k
    then own_entries root (number + length (events_of k) + length (events_of v)) ps
    else ((number, k), (number + length (events_of k), v))
    ∷ own_entries root (number + length (events_of k) + length (events_of v)) ps

-- the mapping of these pairs has a merge key
abbrev pub are_merging : (root : DocNode) → DocPairs → Bool
are_merging root tree.no_pairs = false
are_merging root (tree.pair k v ps) = is_merging root k || are_merging root ps

-- the tree has this node with the number, unless what is made is an alias
abbrev pub Stands : (root : DocNode) → Node → (number : ℕ) → DocNode → Type 0
Stands root (alias_node anchor) number n = Unit {0}
Stands root made number n = node_of root number ≡ Some n

abbrev mutual
  -- The node is made of the one that has this number in the tree and stands for no other. It is an alias that names it,
  -- or the same scalar, or the list of what is made of its elements, in order, or the mapping of what is made of its own
  -- entries, in order, and then, only if it has a merge key, of others.
  pub IsMadeOf : (root : DocNode) → (made : Node) → (number : ℕ) → DocNode → Type 0
  IsMadeOf root (alias_node anchor) number n = anchor ≡ name_of number
  IsMadeOf root (scalar_node s) number n = (n ≡ word (without_anchor s)) × IsNamed s.anchor number
  IsMadeOf root (sequence_node anchor tag made) number n =
      (nodes : DocNodes) × (n ≡ list tag nodes) × IsNamed anchor number × HasElements root made (number + 1) nodes
  IsMadeOf root (mapping_node anchor tag made) number n =
      (ps : DocPairs) × (n ≡ mapping tag ps) × IsNamed anchor number
      × HasEntries root made (are_merging root ps) (own_entries root (number + 1) ps)

  -- these are made of the elements, one of each
  pub HasElements : (root : DocNode) → (made : Nodes) → (number : ℕ) → DocNodes → Type 0
  HasElements root no_nodes number tree.no_nodes = Unit {0}
  HasElements root (node m made) number (tree.node n nodes) =
      ((t : DocNode) × (meant root n ≡ Some t) × IsMadeOf root m (meant_number n number) t)
      × HasElements root made (number + length (events_of n)) nodes
  HasElements root made number nodes = ⊥

  -- these are made of the entries, one of each, and then of others, if there is a merge key
  pub HasEntries : (root : DocNode) → (made : NodePairs) → (merges : Bool) → List (Numbered × Numbered) → Type 0
  HasEntries root no_pairs merges [] = Unit {0}
  HasEntries root no_pairs merges (e ∷ entries) = ⊥
  HasEntries root (pair k v made) merges (e ∷ entries) =
      ((t : DocNode) × (meant root e.0.1 ≡ Some t) × IsMadeOf root k (meant_number e.0.1 e.0.0) t)
      × ((t : DocNode) × (meant root e.1.1 ≡ Some t) × IsMadeOf root v (meant_number e.1.1 e.1.0) t)
      × HasEntries root made merges entries
  HasEntries root (pair k v made) merges [] =
      (merges ≡ true)
      × ((number : ℕ) × (n : DocNode) × Stands root k number n × IsMadeOf root k number n)
      × ((number : ℕ) × (n : DocNode) × Stands root v number n × IsMadeOf root v number n)
      × HasEntries root made merges []

-- the document is that of a node which is made of this tree
pub record IsRemade (root : DocNode) (document : PlainDocument) : Type 0 where
  pub made : Node
  pub tree : DocNode
  pub top : DocNode
  pub resolves : resolved made ≡ Some tree
  pub is : IsTreeOf document tree
  pub means : meant root root ≡ Some top
  pub of_root : IsMadeOf root made (meant_number root 0) top
