-- Entries as the code has them, and which entries and tagged values stand for the same.
use Rattle.std.specs.Prelude.{◌≡◌, ℕ, ◌<◌, List, length, false, slice_index_or}
use Rattle.yaml_tree.specs.Equal.{tree_eq}
use Rattle.yaml_tree.specs.Tree.{Tree}
use Rattle.yaml_tree.specs.Valid.{TaggedTree, tag_of, content_under_tag}
use Rattle.yaml_tree.specs.View.{tree_of}
use Rattle.yaml_tree.specs.declared.mapping.Entry.{Entry}
use Rattle.yaml_tree.specs.declared.value.Value.{Value}

-- an entry with another value
abbrev pub with_value : Entry → Value → Entry
with_value e v = record { key = e.key; value = v; last = e.last; earlier = e.earlier }

-- an entry that keeps another place for the last entry of a chain
abbrev pub with_last_place : Entry → ℕ → Entry
with_last_place e i = record { key = e.key; value = e.value; last = i; earlier = e.earlier }

-- an entry that keeps another place for the entry before it in its chain
abbrev pub with_earlier : Entry → ℕ → Entry
with_earlier e i = record { key = e.key; value = e.value; last = e.last; earlier = i }

-- an entry of a key and a value that is in no chain
abbrev pub new_entry : Value → Value → Entry
new_entry k v = record { key = k; value = v; last = 0; earlier = 0 }

-- the entry at this place, if there is one, has another key than this
abbrev pub IsOtherKey : Tree → List Entry → ℕ → Type 0
IsOtherKey k es i = (d : Entry) → i < length es → tree_eq k (tree_of (slice_index_or es i d).key) ≡ false

-- two entries stand for one pair, and keep the same places
abbrev pub SameEntry : Entry → Entry → Type 0
SameEntry e f =
    (tree_of e.key ≡ tree_of f.key) × (tree_of e.value ≡ tree_of f.value) × (e.last ≡ f.last) × (e.earlier ≡ f.earlier)

-- two tagged values have one text of the tag, and one value
abbrev pub SameTagged : TaggedTree → TaggedTree → Type 0
SameTagged s t = (tag_of s ≡ tag_of t) × (content_under_tag s ≡ content_under_tag t)
