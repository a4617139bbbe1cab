-- What the calls of a mapping answer, over its list of pairs.
use Rattle.std.specs.Prelude.{Bool, true, false, ◌&&◌, ◌||◌, not, Option, Some, None, if◌then◌else◌}
use Rattle.yaml_tree.specs.Tree.{Tree, Pairs, no_pairs, pair}
use Rattle.yaml_tree.specs.Equal.{tree_eq}

-- some pair has a key equal to this one
abbrev pub has_key : Tree → Pairs → Bool
has_key k no_pairs = false
has_key k (pair l v ps) = tree_eq k l || has_key k ps

-- no two keys are equal
abbrev pub keys_distinct : Pairs → Bool
keys_distinct no_pairs = true
keys_distinct (pair k v ps) = not (has_key k ps) && keys_distinct ps

-- the value of the first pair with this key
abbrev pub value_at : Tree → Pairs → Option Tree
value_at k no_pairs = None
value_at k (pair l w ps) = if tree_eq k l then Some w else value_at k ps

-- the pairs with this value at this key: in the place of an equal key, which stays, or else last
abbrev pub with_pair : Tree → Tree → Pairs → Pairs
with_pair k v no_pairs = pair k v no_pairs
with_pair k v (pair l w ps) = if tree_eq k l then pair l v ps else pair l w (with_pair k v ps)
