-- How what stands between two characters of a scalar counts, in one line or over lines.
use Rattle.std.specs.Prelude.{ℕ, zero, suc, ◌+◌, Bool, true, false, List, [], ◌∷◌, ◌++◌, Option, replicate}
use Rattle.std.specs.Option.{option_map}

-- what so many line feeds stand for: one for a space, and of more the first for nothing
abbrev pub folded : ℕ → List ℕ
folded zero = []
folded (suc zero) = 32 ∷ []
folded (suc (suc n)) = replicate (suc n) 10

-- What was passed since the last character: blanks; line feeds, around which blanks count for nothing; or a line feed
-- behind a backslash, and so many others.
pub data Passed : Type 0 where
  blanks : List ℕ → Passed
  feeds : (count : ℕ) → Passed
  escaped : (count : ℕ) → Passed

-- nothing was passed
abbrev pub nothing_passed : Passed
nothing_passed = blanks []

-- what it says
abbrev pub said_by : Passed → List ℕ
said_by (blanks bytes) = bytes
said_by (feeds count) = folded count
said_by (escaped count) = replicate count 10

-- and a blank
abbrev pub and_blank : Passed → (blank : ℕ) → Passed
and_blank (blanks bytes) c = blanks (bytes ++ c ∷ [])
and_blank (feeds count) c = feeds count
and_blank (escaped count) c = escaped count

-- and a line feed
abbrev pub and_feed : Passed → Passed
and_feed (blanks bytes) = feeds 1
and_feed (feeds count) = feeds (suc count)
and_feed (escaped count) = escaped (suc count)

-- a line feed was passed
abbrev pub has_feed : Passed → Bool
has_feed (blanks bytes) = false
has_feed (feeds count) = true
has_feed (escaped count) = true

-- something was passed
abbrev pub is_some_passed : Passed → Bool
is_some_passed (blanks []) = false
is_some_passed (blanks (c ∷ cs)) = true
is_some_passed (feeds count) = true
is_some_passed (escaped count) = true

-- the rest of a scalar: how many bytes it has, and what it says
abbrev pub Rest : Type 0
Rest = Option (ℕ × List ℕ)

-- so many bytes that say this, and then the rest
abbrev pub with_bytes : (count : ℕ) → (said : List ℕ) → Rest → Rest
with_bytes count said rest = option_map (λ r. (count + r.0, said ++ r.1)) rest
