-- The name by which a value asks for the tag of what comes.
use Rattle.std.specs.Prelude.{ℕ, List, [], ◌∷◌}

-- the zero character, and `yaml::tag`
abbrev pub tag_mark : List ℕ
tag_mark = 0 ∷ 121 ∷ 97 ∷ 109 ∷ 108 ∷ 58 ∷ 58 ∷ 116 ∷ 97 ∷ 103 ∷ []
