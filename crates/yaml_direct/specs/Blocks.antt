-- What the lines of a block of text add to its text.
use Rattle.std.specs.Prelude.{ℕ, zero, suc, List, [], ◌∷◌, Bool, true, false, not, ◌&&◌, ◌||◌, ◌==◌, replicate}
use Rattle.yaml_direct.specs.Bytes.{at}
use Rattle.yaml_direct.specs.declared.block_scalar.Block.{Block}

-- a line begins with a blank
abbrev pub begins_blank : List ℕ → Bool
begins_blank line = at line 0 == 32 || at line 0 == 9

-- the line feeds before a line are folded
abbrev pub joins : Block → List ℕ → Bool
joins block line = block.folds && (block.begun && (not block.blank && not (begins_blank line)))

-- what so many line feeds stand for: if they are folded, one is a space, and of more the first goes
abbrev pub joint : (folded : Bool) → (feeds : ℕ) → List ℕ
joint false feeds = replicate feeds 10
joint true zero = []
joint true (suc zero) = 32 ∷ []
joint true (suc (suc feeds)) = replicate (suc feeds) 10
