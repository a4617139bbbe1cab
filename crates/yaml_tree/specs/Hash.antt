-- The hash of a key: equal keys have one hash.
use Rattle.std.specs.Prelude.{ℕ, List, true, false, ℤ, unsigned_abs}
use Rattle.std.specs.List.{fold}
use Rattle.std.specs.Hash.FoldHasher.{initial, write, finish}
use Rattle.std.specs.Hash as fed
use Rattle.yaml_tree.specs.Tag.{tag_name}
use Rattle.yaml_tree.specs.Tree.{Tree, null, boolean, number, string, sequence, mapping, tagged}

-- the hash of a text
abbrev pub text_hash : List ℕ → ℕ
text_hash s = finish (write initial s)

-- the hash of an integer: that of its distance from 0
abbrev pub integer_hash : ℤ → ℕ
integer_hash z = finish (fold write initial (fed.u64 (unsigned_abs z)))

-- the hash of a tag's name and of the hash of what is under the tag
abbrev pub tagged_hash : List ℕ → ℕ → ℕ
tagged_hash name content = finish (fold write (write initial name) (fed.u64 content))

-- the hash of a tree; all sequences have one, and all mappings
abbrev pub hash_of : Tree → ℕ
hash_of null = 0
hash_of (boolean false) = 1
hash_of (boolean true) = 2
hash_of (number z) = integer_hash z
hash_of (string s) = text_hash s
hash_of (sequence ts) = 3
hash_of (mapping ps) = 4
hash_of (tagged s t) = tagged_hash (tag_name s) (hash_of t)
