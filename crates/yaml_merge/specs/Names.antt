-- How nodes are named that aliases may stand for.
use Rattle.std.specs.Prelude.{◌≡◌, ℕ, List, Option, Some, None}
use Rattle.std.specs.Int.{to_le_bytes, w64}

-- the anchor of the node with this number: the bytes of the number
unfoldable pub name_of : ℕ → List ℕ
name_of number = to_le_bytes w64 number

-- an anchor, if there is one, is that of the node with this number
abbrev pub IsNamed : Option (List ℕ) → ℕ → Type 0
IsNamed None number = Unit {0}
IsNamed (Some anchor) number = anchor ≡ name_of number
