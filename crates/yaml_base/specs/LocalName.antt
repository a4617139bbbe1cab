-- The name of a local tag.
use Rattle.std.specs.Prelude.{◌≡◌, ℕ, ◌<◌, ◌==◌, if◌then◌else◌, List, [], ◌∷◌, length, codes, Option, Some, None}
use Rattle.std.specs.Str.{IsUtf8, is_utf8}

-- A local tag begins with `!`. Its name is the rest, where that is UTF-8, or `!` where nothing follows.
pub data HasLocalName (tag name : List ℕ) : Type 0 where
  bare : tag ≡ codes "!" → name ≡ codes "!" → HasLocalName tag name
  named : tag ≡ 33 ∷ name → 0 < length name → IsUtf8 name → HasLocalName tag name

-- the name of the tag, if it has one
abbrev pub local_name : List ℕ → Option (List ℕ)
local_name [] = None
local_name (c ∷ rest) =
    if c == 33
    then (if length rest == 0 then Some (codes "!") else (if is_utf8 rest then Some rest else None))
    else None
