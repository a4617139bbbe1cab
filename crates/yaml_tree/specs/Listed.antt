-- Texts in a row.
use Rattle.std.specs.Prelude.{ℕ, ◌==◌, List, [], ◌∷◌, ◌++◌, codes, if◌then◌else◌}
use Rattle.std.specs.List.{flat_map}

-- what stands before the part with this place
abbrev pub before_part : ℕ → List ℕ
before_part place = if place == 0 then [] else codes ", "

-- texts with a comma and a space between
abbrev pub listed : List (List ℕ) → List ℕ
listed [] = []
listed (first ∷ others) = first ++ flat_map (λ text. codes ", " ++ text) others
