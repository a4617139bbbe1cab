-- Where nodes stand, and what stands before them. A column is counted from 0.
use Rattle.std.specs.Prelude.{ℕ, ◌+◌, true, false, List, [], ◌∷◌, ◌++◌, replicate}
use Rattle.yaml_emit.specs.Tags.{printed_tag}
use Rattle.yaml_emit.specs.declared.open.Lead.{Lead}
use Rattle.yaml_emit.specs.declared.open.Lead.TheVariants.{Fresh, Indicator, Text}
use Rattle.yaml_emit.specs.declared.open.Place.{Place}

-- the root of a document
abbrev pub root_place : Lead → Place
root_place lead = record { lead = lead; key = false; column = 0; level = 0 }

-- an item behind its `-`, where that stands in this column
abbrev pub item_place : ℕ → Place
item_place column = record { lead = Indicator; key = false; column = column + 2; level = column + 2 }

-- a key behind `?` or a value behind `:`, where these stand in this column
abbrev pub far_place : ℕ → Place
far_place column = record { lead = Indicator; key = false; column = column + 2; level = column }

-- a key that begins in this column, in a line with its value
abbrev pub key_place : ℕ → Place
key_place column = record { lead = Fresh; key = true; column = column + 2; level = column }

-- the value of such a key
abbrev pub value_place : ℕ → Place
value_place column = record { lead = Text; key = false; column = column + 2; level = column }

-- a blank, unless the line begins here
abbrev pub blank : Lead → List ℕ
blank Fresh = []
blank Indicator = 32 ∷ []
blank Text = 32 ∷ []

-- a text in the line, behind a blank unless the line begins here; no text needs none
abbrev pub in_line : Lead → List ℕ → List ℕ
in_line lead [] = []
in_line lead (c ∷ cs) = blank lead ++ (c ∷ cs)

-- the tag of a node in its line; an empty tag is none
abbrev pub tag_in_line : Lead → List ℕ → List ℕ
tag_in_line lead [] = []
tag_in_line lead (c ∷ cs) = blank lead ++ printed_tag (c ∷ cs)

-- what stands before the rest of a node that has this tag
abbrev pub behind_tag : Lead → List ℕ → Lead
behind_tag lead [] = lead
behind_tag lead (c ∷ cs) = Text

-- What stands before the first part of a collection: behind an indicator it stands in the line, behind other text in
-- a line of its own, from a column on.
abbrev pub margin : Lead → ℕ → List ℕ
margin Fresh column = replicate column 32
margin Indicator column = 32 ∷ []
margin Text column = 10 ∷ replicate column 32
