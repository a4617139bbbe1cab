-- Which steps the text of a path has: it is read from its first character to its last.
use Rattle.std.specs.Prelude.{ℕ, ◌+◌, ◌*◌, ◌-◌, ◌^◌, List, [], ◌∷◌, ◌++◌, Bool, ◌&&◌, ◌||◌, ◌==◌, nat_le, nat_lt}
use Rattle.std.specs.Prelude.{if◌then◌else◌, Option, Some, None, option_map, Result, Ok, Err}
use Rattle.std.specs.Char.{encode_utf8}
use Rattle.std.specs.Str.{chars}
use Rattle.yaml_query.specs.Steps.{PlainStep, index, key}
use Rattle.yaml_query.specs.declared.reading.Place.{Place}
use Rattle.yaml_query.specs.declared.reading.Place.TheVariants as place
use Rattle.yaml_query.specs.declared.reading.Act.{Act}
use Rattle.yaml_query.specs.declared.reading.Act.TheVariants as act

-- the characters `.`, `[` and `]`, the quotes, and the digits
abbrev pub dot : ℕ
dot = 46

abbrev pub opening : ℕ
opening = 91

abbrev pub closing : ℕ
closing = 93

abbrev pub is_quote : ℕ → Bool
is_quote c = (c == 34) || (c == 39)

abbrev pub is_digit : ℕ → Bool
is_digit c = nat_le 48 c && nat_le c 57

-- A key begins: behind a quote, or with a character that is none of the path's own.
abbrev pub key_begins : ℕ → Option (Place × Act)
key_begins c = if is_quote c then Some (place.Quoted c, act.Skip)
    else if (c == dot) || ((c == opening) || (c == closing)) then None
    else Some (place.Name, act.Take)

-- A step begins: a key, or behind a bracket a place.
abbrev pub step_begins : ℕ → Option (Place × Act)
step_begins c = if c == opening then Some (place.Bracket, act.Skip) else key_begins c

-- Behind a step stands another one: behind a dot a key, or behind a bracket a place.
abbrev pub step_ends : Act → ℕ → Option (Place × Act)
step_ends done c = if c == dot then Some (place.Key, done)
    else if c == opening then Some (place.Bracket, done) else None

-- What a character is, by where it stands: what comes behind it, and what is done with it.
abbrev pub next : Place → ℕ → Option (Place × Act)
next place.Start c = if c == dot then Some (place.Root, act.Skip) else step_begins c
next place.Root c = step_begins c
next place.Key c = key_begins c
next place.Name c = if (c == dot) || ((c == opening) || (c == closing)) then step_ends act.EndKey c
    else Some (place.Name, act.Take)
next (place.Quoted quote) c = if c == quote then Some (place.Quote quote, act.Skip)
    else Some (place.Quoted quote, act.Take)
next (place.Quote quote) c = if c == quote then Some (place.Quoted quote, act.Take) else step_ends act.EndKey c
next place.Bracket c = if is_digit c then Some (place.Digits, act.Digit) else None
next place.Digits c = if is_digit c then Some (place.Digits, act.Digit)
    else if c == closing then Some (place.Behind, act.EndIndex) else None
next place.Behind c = step_ends act.Skip c

-- what was read: whole steps, and the key and the place that are being read
pub record PlainReading : Type 0 where
  pub steps : List PlainStep
  pub name : List ℕ
  pub number : ℕ

abbrev pub nothing_read : PlainReading
nothing_read = record { steps = []; name = []; number = 0 }

-- a digit more of a number, which has 64 bits
abbrev pub digit_behind : ℕ → ℕ → Option ℕ
digit_behind n c = if nat_lt (n * 10 + (c - 48)) (2 ^ 64) then Some (n * 10 + (c - 48)) else None

abbrev pub with_number : PlainReading → ℕ → PlainReading
with_number r n = record { steps = r.steps; name = r.name; number = n }

abbrev pub with_digit : ℕ → PlainReading → Option PlainReading
with_digit c r = option_map (with_number r) (digit_behind r.number c)

-- a character more of the key
abbrev pub taken : ℕ → PlainReading → PlainReading
taken c r = record { steps = r.steps; name = r.name ++ encode_utf8 c; number = r.number }

-- the key is a step, and so is the place
abbrev pub key_ended : PlainReading → PlainReading
key_ended r = record { steps = r.steps ++ key r.name ∷ []; name = []; number = r.number }

abbrev pub index_ended : PlainReading → PlainReading
index_ended r = record { steps = r.steps ++ index r.number ∷ []; name = r.name; number = 0 }

-- What is done with a character.
abbrev pub perform : Act → ℕ → PlainReading → Option PlainReading
perform act.Skip c r = Some r
perform act.Take c r = Some (taken c r)
perform act.Digit c r = with_digit c r
perform act.EndKey c r = Some (key_ended r)
perform act.EndIndex c r = Some (index_ended r)

-- The steps, where the text ends here.
abbrev pub steps_at_end : Place → PlainReading → Option (List PlainStep)
steps_at_end place.Start r = Some r.steps
steps_at_end place.Root r = Some r.steps
steps_at_end place.Key r = None
steps_at_end place.Name r = Some (key_ended r).steps
steps_at_end (place.Quoted quote) r = None
steps_at_end (place.Quote quote) r = Some (key_ended r).steps
steps_at_end place.Bracket r = None
steps_at_end place.Digits r = None
steps_at_end place.Behind r = Some r.steps

-- what is there, or else the column of the fault
abbrev pub or_fault : {A : Type 0} → ℕ → Option A → Result A ℕ
or_fault column (Some x) = Ok x
or_fault column None = Err column

abbrev pub then_read : {A B : Type 0} → ℕ → Option A → (A → Result B ℕ) → Result B ℕ
then_read column None go = Err column
then_read column (Some x) go = go x

-- The steps of what is left of a text, from a column on; or the column at which it is no path.
abbrev pub read_from : (column : ℕ) → Place → PlainReading → List ℕ → Result (List PlainStep) ℕ
read_from column p r [] = or_fault column (steps_at_end p r)
read_from column p r (c ∷ cs) = then_read column (next p c)
    (λ m. then_read column (perform m.1 c r) (λ s. read_from (column + 1) m.0 s cs))

-- The steps of a path, such as `servers[1].port`; or the column, from 1 on, at which the text is no path.
abbrev pub path_steps : List ℕ → Result (List PlainStep) ℕ
path_steps text = read_from 1 place.Start nothing_read (chars text)
