-- The tree of one document in which each alias names the number of its target: the place of its first event.
use Rattle.std.specs.Prelude.{◌≡◌, ℕ, suc, ◌+◌, List, [], ◌∷◌, ◌++◌, length, map, slice_get}
use Rattle.std.specs.Prelude.{Option, Some, None, ◌==◌, if◌then◌else◌}
use Rattle.yaml_base.specs.PlainDocEvent.{PlainDocEvent, alias_to, a_scalar, sequence_begins, sequence_ends}
use Rattle.yaml_base.specs.PlainDocEvent.{mapping_begins, mapping_ends, a_void}
use Rattle.yaml_base.specs.PlainDocument.{PlainDocument}
use Rattle.yaml_base.specs.PlainEvent.{PlainScalar}
use Rattle.yaml_base.specs.Position.{Position}

-- a node stands for nothing, for another node, or is a scalar, a list of nodes, or pairs of nodes
mutual
  pub data DocNode : Type 0 where
    nothing : DocNode
    reference : (target : ℕ) → DocNode
    word : PlainScalar → DocNode
    list : (tag : Option (List ℕ)) → DocNodes → DocNode
    mapping : (tag : Option (List ℕ)) → DocPairs → DocNode

  pub data DocNodes : Type 0 where
    no_nodes : DocNodes
    node : DocNode → DocNodes → DocNodes

  pub data DocPairs : Type 0 where
    no_pairs : DocPairs
    pair : DocNode → DocNode → DocPairs → DocPairs

-- the event that a node begins with
abbrev pub first_event : DocNode → PlainDocEvent
first_event nothing = a_void
first_event (reference target) = alias_to target
first_event (word s) = a_scalar s
first_event (list tag nodes) = sequence_begins tag
first_event (mapping tag pairs) = mapping_begins tag

-- the events of a node
abbrev mutual
  pub events_of : DocNode → List PlainDocEvent
  events_of nothing = a_void ∷ []
  events_of (reference target) = alias_to target ∷ []
  events_of (word s) = a_scalar s ∷ []
  events_of (list tag nodes) = sequence_begins tag ∷ (events_of_nodes nodes ++ sequence_ends ∷ [])
  events_of (mapping tag pairs) = mapping_begins tag ∷ (events_of_pairs pairs ++ mapping_ends ∷ [])

  pub events_of_nodes : DocNodes → List PlainDocEvent
  events_of_nodes no_nodes = []
  events_of_nodes (node n nodes) = events_of n ++ events_of_nodes nodes

  pub events_of_pairs : DocPairs → List PlainDocEvent
  events_of_pairs no_pairs = []
  events_of_pairs (pair key value pairs) = events_of key ++ (events_of value ++ events_of_pairs pairs)

-- each node with its number, in order, where the first node has the given one
abbrev mutual
  pub numbered : DocNode → ℕ → List (ℕ × DocNode)
  numbered nothing i = (i, nothing) ∷ []
  numbered (reference target) i = (i, reference target) ∷ []
  numbered (word s) i = (i, word s) ∷ []
  numbered (list tag nodes) i = (i, list tag nodes) ∷ numbered_nodes nodes (suc i)
  numbered (mapping tag pairs) i = (i, mapping tag pairs) ∷ numbered_pairs pairs (suc i)

  pub numbered_nodes : DocNodes → ℕ → List (ℕ × DocNode)
  numbered_nodes no_nodes i = []
  numbered_nodes (node n nodes) i = numbered n i ++ numbered_nodes nodes (i + length (events_of n))

  pub numbered_pairs : DocPairs → ℕ → List (ℕ × DocNode)
  numbered_pairs no_pairs i = []
  numbered_pairs (pair key value pairs) i =
      numbered key i ++ (numbered value (i + length (events_of key))
      ++ numbered_pairs pairs (i + length (events_of key) + length (events_of value)))

-- the first node of the list that has the number
abbrev pub with_number : ℕ → List (ℕ × DocNode) → Option DocNode
with_number number [] = None
with_number number (x ∷ xs) = if x.0 == number then Some x.1 else with_number number xs

-- the node of a tree that has a number
abbrev pub node_of : DocNode → ℕ → Option DocNode
node_of root number = with_number number (numbered root 0)

-- nothing cut the document off, its events are those of the tree, and each of its aliases names a node of the tree
pub record IsTreeOf (document : PlainDocument) (root : DocNode) : Type 0 where
  pub whole : document.ending ≡ None
  pub events : map (λ e. e.0) document.events ≡ events_of root
  pub known : (p j : ℕ) (mark : Position) → slice_get document.events p ≡ Some (alias_to j, mark)
      → (n : DocNode) × (node_of root j ≡ Some n)
