-- The tags that variants and tagged values are written with.
use Rattle.std.specs.Prelude.{ℕ, List, [], ◌∷◌, ◌==◌, if◌then◌else◌}
use Rattle.yaml_tree.specs.Tag.{tag_name}

-- a name as a local tag: with `!` (byte 33) in front, unless it begins with one
abbrev pub local_tag : List ℕ → List ℕ
local_tag [] = 33 ∷ []
local_tag (c ∷ cs) = if c == 33 then c ∷ cs else 33 ∷ c ∷ cs

-- the tag of a value, with one `!`: one in front that has something behind it makes no difference
abbrev pub value_tag : List ℕ → List ℕ
value_tag text = local_tag (tag_name text)
