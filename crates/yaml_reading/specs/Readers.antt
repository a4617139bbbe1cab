-- What a reader is: from the events so far and a place to the events then and a place behind.
use Rattle.std.specs.Prelude.{ℕ, Bool, ◌==◌, ◌||◌, List, [], ◌∷◌, ◌++◌, Option, None}
use Rattle.std.specs.Prelude.{option_and_then, option_map, slice_range}
use Rattle.yaml_grammar.specs.Leaves.{Leaf, leaf_node}
use Rattle.yaml_grammar.specs.Names.{Names}
use Rattle.yaml_grammar.specs.Nodes.{Marked, Node, mark, no_content, node_events}

-- the events so far and those that were read, and a place behind them
abbrev pub Read : Type 0
Read = Option (List Marked × ℕ)

abbrev pub Reader : Type 0
Reader = List Marked → (place : ℕ) → Read

-- a reader of a collection whose names begin in a place
abbrev pub Collections : Type 0
Collections = Names → (start : ℕ) → Reader

-- nothing stands here
abbrev pub no_more : Reader
no_more es i = None

-- one event more
abbrev pub and_event : List Marked → Marked → List Marked
and_event es e = es ++ e ∷ []

-- the events of a node more
abbrev pub and_node : List Marked → Node → List Marked
and_node es n = es ++ node_events n

-- a node that ends before a place
abbrev pub with_node : List Marked → (end : ℕ) → Option Node → Read
with_node es end n = option_map (λ m. (and_node es m, end)) n

-- a leaf behind names that begin in a place
abbrev pub with_leaf : List ℕ → List Marked → (i : ℕ) → Names → Option (Leaf × ℕ) → Read
with_leaf text es i names leaf = option_and_then (λ x. with_node es x.1 (leaf_node text i names x.0 x.1)) leaf

-- names alone, which begin in a place and end before another
abbrev pub alone : List ℕ → (i p : ℕ) → Names → Node
alone text i p names = no_content (mark text i) names (slice_range text i p)

-- what is read behind this
abbrev pub and_then : Read → Reader → Read
and_then r more = option_and_then (λ x. more x.0 x.1) r

-- a collection in brackets begins with this byte
abbrev pub opens : ℕ → Bool
opens c = c == 91 || c == 123
