-- The steps that a reading is made of.
use Rattle.std.specs.Prelude.{ℕ, zero, suc, Option, Some, None, Result, Ok, Err}
use Rattle.yaml_base.specs.Position.{Position}
use Rattle.yaml_shape.specs.PlainShape.{PlainShape}
use Rattle.yaml_meaning.specs.ReadFault.{ReadFault, PlainRefusal, out_of_memory, refused}
use Rattle.yaml_meaning.specs.ReadFault.{recursion_limit_exceeded, repetition_limit_exceeded}
use Rattle.yaml_meaning.specs.ReadingGives.{lift}

-- goes on with the answer, where there is one
infixl 10 ◌>>=◌
abbrev pub ◌>>=◌ : {E A B : Type 0} → Result A E → (A → Result B E) → Result B E
(Ok x) >>= f = f x
(Err e) >>= f = Err e

-- the answer, with where the reading ended
abbrev pub with_end : {A C : Type 0} → C → Result A PlainRefusal → Result (A × C) PlainRefusal
with_end at r = r >>= λ v. Ok (v, at)

-- the same of what takes no memory
abbrev pub ending : {A C : Type 0} → C → Result A ReadFault → Result (A × C) PlainRefusal
ending at r = with_end at (lift r)

-- what is made of the answer
abbrev pub wrap : {A B C : Type 0} → (A → B) → Result (A × C) PlainRefusal → Result (B × C) PlainRefusal
wrap f read = read >>= λ x. Ok (f x.0, x.1)

-- ends with what is made of the state, or with a fault
abbrev pub finish : {S A C : Type 0} → (S → Result A ReadFault) → Result (S × C) PlainRefusal
    → Result (A × C) PlainRefusal
finish f read = read >>= λ x. ending x.1 (f x.0)

-- goes into a collection with a mark, where a nesting is left
abbrev pub enter : {A : Type 0} → ℕ → Position → (ℕ → Result A PlainRefusal) → Result A PlainRefusal
enter zero mark go = Err (refused (recursion_limit_exceeded mark))
enter (suc nest) mark go = go nest

-- follows an alias, where a follow is left
abbrev pub follow : {A : Type 0} → ℕ → (ℕ → Result A PlainRefusal) → Result A PlainRefusal
follow zero go = Err (refused repetition_limit_exceeded)
follow (suc left) go = go left

-- goes on with the shape that was looked up; a schema has each shape that one of its shapes names
abbrev pub with_shape : {A : Type 0} → Option PlainShape → (PlainShape → Result A PlainRefusal) → Result A PlainRefusal
with_shape None go = Err out_of_memory
with_shape (Some s) go = go s

-- the fault that comes first, if there is one
abbrev pub unless : {A : Type 0} → Option ReadFault → Result A PlainRefusal → Result A PlainRefusal
unless None r = r
unless (Some fault) r = Err (refused fault)
