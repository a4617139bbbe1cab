-- Looking up keys and pairs in a list of pairs.
use Rattle.std.specs.Prelude.{ℕ, suc, Bool, true, false, ◌&&◌, ◌||◌, Option, Some, None, option_map, if◌then◌else◌}
use Rattle.yaml_tree.specs.Tree.{Tree, Pairs, no_pairs, pair}
use Rattle.yaml_tree.specs.Equal.{tree_eq}

-- the place of the first pair with this key
abbrev pub place_of_key : Tree → Pairs → Option ℕ
place_of_key k no_pairs = None
place_of_key k (pair l w ps) = if tree_eq k l then Some 0 else option_map suc (place_of_key k ps)

-- some pair is equal to this one
abbrev pub has_pair : Tree → Tree → Pairs → Bool
has_pair k v no_pairs = false
has_pair k v (pair l w ps) = (tree_eq k l && tree_eq v w) || has_pair k v ps

-- each pair of the first list is equal to one of the second
abbrev pub has_all_pairs : Pairs → Pairs → Bool
has_all_pairs no_pairs qs = true
has_all_pairs (pair k v ps) qs = has_pair k v qs && has_all_pairs ps qs
