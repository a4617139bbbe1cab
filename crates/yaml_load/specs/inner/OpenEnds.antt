-- The numbers of a document's events while they go by: those of open collections are filled in where these end.
use Rattle.std.specs.Prelude.{ℕ, ◌≡◌, ◌+◌, List, [], ◌∷◌, ◌++◌, map, min, length, reverse, slice_set, suc, zero}
use Rattle.yaml_base.specs.PlainDocEvent.{PlainDocEvent}
use Rattle.yaml_load.specs.Ends.{end_place, ends_from, ends_of}

-- the numbers so far, and where the open collections begin, the innermost last
pub record EndsView : Type 0 where
  pub numbers : List ℕ
  pub unended : List ℕ

-- The numbers once the open collections, the innermost first, are ended by the events from a place on, where a number
-- of
-- collections are open within the first of them.
abbrev pub numbers_ended : List ℕ → ℕ → ℕ → List PlainDocEvent → List ℕ → List ℕ
numbers_ended [] inner place later numbers = numbers
numbers_ended (start ∷ starts) inner place later numbers =
    numbers_ended starts (inner + 1) place later (slice_set numbers start (end_place inner place later))

-- behind the numbers of other documents stand those of a document of which some events were seen, whatever comes later
pub record HasNumbers (front : List ℕ) (seen : List PlainDocEvent) (ends : EndsView) : Type 0 where
  pub long : length ends.numbers ≡ length front + length seen
  pub all : (later : List PlainDocEvent)
      → numbers_ended (reverse ends.unended) 0 (length seen) later ends.numbers ++ ends_from (length seen) later
      ≡ front ++ ends_of (seen ++ later)

-- the numbers, from one on none greater than a bound
abbrev pub bounded_from : ℕ → ℕ → List ℕ → List ℕ
bounded_from bound zero numbers = map (min bound) numbers
bounded_from bound (suc from) [] = []
bounded_from bound (suc from) (n ∷ numbers) = n ∷ bounded_from bound from numbers
