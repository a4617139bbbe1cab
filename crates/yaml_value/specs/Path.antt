-- What a path such as `servers/1/port` leads to, one part after another.
use Rattle.std.specs.Prelude.{◌≡◌, ◌==◌, ◌∷◌, ℕ, List, [], Option, Some, None, MatchOption, Result, if◌then◌else◌}
use Rattle.std.specs.Prelude.{option_and_then, unwrap_or}
use Rattle.std.specs.Result.{result_ok}
use Rattle.std.specs.Str.Parse.{ParsesUnsigned}
use Rattle.yaml_value.specs.Find.{at, get}
use Rattle.yaml_value.specs.PlainValue.{PlainValue}
use Rattle.yaml_value.specs.TagText.{behind_byte}

-- the part of which a byte is the first, before others
abbrev pub longer : ℕ → List (List ℕ) → List (List ℕ)
longer c [] = (c ∷ []) ∷ []
longer c (part ∷ parts) = (c ∷ part) ∷ parts

-- the parts of a text between its slashes (byte 47): one, where it has none
abbrev pub parts_of : List ℕ → List (List ℕ)
parts_of [] = [] ∷ []
parts_of (c ∷ cs) = if c == 47 then [] ∷ parts_of cs else longer c (parts_of cs)

-- what is in the place of a sequence, or at the key, that is the number which a part is: of decimal digits
abbrev pub LeadsToPlace : (part : List ℕ) → PlainValue → Option PlainValue → Type 0
LeadsToPlace part v found =
    (read : Result ℕ (Unit {0})) × ParsesUnsigned 64 10 part read
    × (found ≡ option_and_then (λ place. at place v) (result_ok read))

-- a part leads to the value at the key that it is, and where there is none to the place of which it is the number
abbrev pub Leads : (part : List ℕ) → PlainValue → Option PlainValue → Type 0
Leads part v found = MatchOption (get part v) (LeadsToPlace part v found) (λ w. found ≡ Some w)

-- the parts lead, one after another
abbrev pub LeadsAlong : (parts : List (List ℕ)) → PlainValue → Option PlainValue → Type 0
LeadsAlong [] v found = found ≡ Some v
LeadsAlong (part ∷ parts) v found =
    (next : Option PlainValue) × Leads part v next
    × MatchOption next (found ≡ None) (λ w. LeadsAlong parts w found)

-- a path leads along its parts, without a slash in front; the empty one leads nowhere else
abbrev pub LeadsBehind : (path : List ℕ) → PlainValue → Option PlainValue → Type 0
LeadsBehind [] v found = found ≡ Some v
LeadsBehind (c ∷ cs) v found = LeadsAlong (parts_of (c ∷ cs)) v found

abbrev pub LeadsTo : (path : List ℕ) → PlainValue → Option PlainValue → Type 0
LeadsTo path v found = LeadsBehind (unwrap_or (behind_byte 47 path) path) v found
