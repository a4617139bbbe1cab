-- What a value is, for one who asks for a boolean, an integer, a text or a part. Tags around it are looked through.
use Rattle.std.specs.Prelude.{ℕ, ℤ, pos, List, Bool, true, false, Option, Some, None}
use Rattle.yaml_tree.specs.Mapping.{value_at}
use Rattle.yaml_tree.specs.Tree.{Tree, null, boolean, number, string, sequence, mapping, tagged, Trees, Pairs, tree_at}

-- the value under all its tags
abbrev pub untagged : Tree → Tree
untagged (tagged s t) = untagged t
untagged t = t

-- it is null
abbrev pub is_null : Tree → Bool
is_null null = true
is_null _ = false

-- the boolean that it is
abbrev pub boolean_in : Tree → Option Bool
boolean_in (boolean b) = Some b
boolean_in _ = None

-- the integer that it is
abbrev pub number_in : Tree → Option ℤ
number_in (number z) = Some z
number_in _ = None

-- the text that it is
abbrev pub text_in : Tree → Option (List ℕ)
text_in (string s) = Some s
text_in _ = None

-- the values of the sequence that it is
abbrev pub items_in : Tree → Option Trees
items_in (sequence ts) = Some ts
items_in _ = None

-- the pairs of the mapping that it is
abbrev pub pairs_in : Tree → Option Pairs
pairs_in (mapping ps) = Some ps
pairs_in _ = None

-- the value at a key of the mapping that it is
abbrev pub at_key : Tree → Tree → Option Tree
at_key k (mapping ps) = value_at k ps
at_key k _ = None

-- the value at a place of the sequence that it is, counted from 0, or at this number in the mapping that it is
abbrev pub at_place : ℕ → Tree → Option Tree
at_place i (sequence ts) = tree_at ts i
at_place i (mapping ps) = value_at (number (pos i)) ps
at_place i _ = None
