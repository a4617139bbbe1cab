-- What a path leads to.
use Rattle.std.specs.Prelude.{ℕ, ◌+◌, List, [], ◌∷◌, Option, None, Some, Result, Ok, Err}
use Rattle.yaml_query.specs.Steps.{PlainStep, index, key}
use Rattle.yaml_value.specs.Find.{at, get}
use Rattle.yaml_value.specs.PlainValue.{PlainValue}

-- A step leads to the value at a key of a mapping, to the element in a place of a sequence, or to the value at the
-- key of
-- a mapping that is this number. Tags are looked through.
abbrev pub step_in : PlainStep → PlainValue → Option PlainValue
step_in (key k) v = get k v
step_in (index place) v = at place v

-- what behind these steps is found where the next one leads, or that it leads nowhere
abbrev pub go_on : (before : ℕ) → Option PlainValue → (PlainValue → Result PlainValue ℕ) → Result PlainValue ℕ
go_on before None further = Err before
go_on before (Some w) further = further w

abbrev pub found_from : (before : ℕ) → List PlainStep → PlainValue → Result PlainValue ℕ
found_from before [] v = Ok v
found_from before (s ∷ ss) v = go_on before (step_in s v) (found_from (before + 1) ss)

-- What steps lead to, one behind the other; or how many of them lead somewhere, where the next one does not.
abbrev pub found_at : List PlainStep → PlainValue → Result PlainValue ℕ
found_at = found_from 0
