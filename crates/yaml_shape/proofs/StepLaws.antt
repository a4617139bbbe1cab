-- Lists of steps: one step of each shape, twice as many, and the least end.
use Rattle.std.proofs.lemmas.Bool.Decides.{nat_tests}
use Rattle.std.proofs.Common.{Bool, true, false, ltb, ◌≡◌, ◌<◌, ◌≤◌, ◌+◌, ℕ, zero, suc, List, [], ◌∷◌}
use Rattle.std.proofs.Common.{Option, Some, None, map, fold, length, refl, sym, ◌∙◌, ap, arith}
use Rattle.std.specs.Prelude.{min, IsNone, IfSome}
use Rattle.std.specs.Option.{option_and_then}
use Rattle.yaml_shape.specs.PlainShape.{PlainShape}
use Rattle.yaml_shape.specs.Validity.{walk, IsCycle}
use Rattle.yaml_shape.specs.SchemaRefusal.{IsFirstCycle}
use Rattle.yaml_shape.specs.Walks.{led_from, led_on, AreWalks, lesser, IsLeastEnd}
use Rattle.yaml_shape.proofs.WalkLaws.{walk-add, long_walk, cycle_reached}

led_map : (steps rest : List (Option ℕ)) (id : ℕ)
    → led_from (map (led_on steps) rest) id ≡ led_on steps (led_from rest id)
led_map steps [] id = refl
led_map steps (s ∷ rest) zero = refl
led_map steps (s ∷ rest) (suc id) = led_map steps rest id

on_walk : (shapes : List PlainShape) (n : ℕ) (steps : List (Option ℕ)) → AreWalks shapes n steps → (o : Option ℕ)
    → led_on steps o ≡ option_and_then (walk shapes n) o
on_walk shapes n steps are None = refl
on_walk shapes n steps are (Some id) = are id

-- twice as many steps
pub are_doubled : (shapes : List PlainShape) (n : ℕ) (steps : List (Option ℕ)) → AreWalks shapes n steps
    → AreWalks shapes (n + n) (map (led_on steps) steps)
are_doubled shapes n steps are id =
    led_map steps steps id
    ∙ (ap (led_on steps) (are id) ∙ (on_walk shapes n steps are (walk shapes n id)
    ∙ sym (walk-add shapes n n id)))

-- no end is there
record NoEnd (first : Option ℕ) (steps : List (Option ℕ)) : Type 0 where
  alone : first ≡ None
  none : (id : ℕ) → led_from steps id ≡ None

no_ends : (first : Option ℕ) (steps : List (Option ℕ)) → fold lesser first steps ≡ None → NoEnd first steps
no_ends first [] h = record { alone = h; none = λ id. refl }
no_ends None (None ∷ steps) h =
    let rest : NoEnd None steps = no_ends None steps h in
    record { alone = refl; none = λ id. at rest id }
  where
    at : NoEnd None steps → (id : ℕ) → led_from (None ∷ steps) id ≡ None
    at rest zero = refl
    at rest (suc id) = rest.none id
no_ends None (Some b ∷ steps) h = absurd (let e = (no_ends (Some b) steps h).alone in cc)
no_ends (Some a) (None ∷ steps) h = absurd (let e = (no_ends (Some a) steps h).alone in cc)
no_ends (Some a) (Some b ∷ steps) h = absurd (let e = (no_ends (Some (min a b)) steps h).alone in cc)

-- where the least end, of a number or of steps, comes from
data Comes (first : Option ℕ) (steps : List (Option ℕ)) (id : ℕ) : Type 0 where
  alone : first ≡ Some id → Comes first steps id
  led : (start : ℕ) → led_from steps start ≡ Some id → Comes first steps id

-- the least end, of a number and of steps
record IsLeast (first : Option ℕ) (steps : List (Option ℕ)) (id : ℕ) : Type 0 where
  comes : Comes first steps id
  before : IfSome first (λ other. id ≤ other)
  least : (other : ℕ) → (end : ℕ) → led_from steps other ≡ Some end → id ≤ end

comes_on : (x : Option ℕ) (steps : List (Option ℕ)) (id : ℕ) → Comes None steps id → Comes None (x ∷ steps) id
comes_on x steps id (alone h) = absurd (cc)
comes_on x steps id (led start h) = led (suc start) h

least_end : (first : Option ℕ) (steps : List (Option ℕ)) (id : ℕ) → fold lesser first steps ≡ Some id
    → IsLeast first steps id
least_end None [] id h = absurd (cc)
least_end (Some a) [] id h =
    let same : a ≡ id = cc in
    record { comes = alone h; before = omega arith; least = λ other end e. absurd (cc) }
least_end first (x ∷ steps) id h = joined first x (least_end (lesser first x) steps id h)
  where
    from_either : (a b : ℕ) (c : Bool) → ltb a b ≡ c → Comes (Some (min a b)) steps id
        → Comes (Some a) (Some b ∷ steps) id
    from_either a b c e (led start g) = led (suc start) g
    from_either a b true e (alone g) = alone (ap Some (let m : min a b ≡ id = cc in grind (arith, nat_tests)))
    from_either a b false e (alone g) = led zero (ap Some (let m : min a b ≡ id = cc in grind (arith, nat_tests)))

    from_first : (a : ℕ) → Comes (Some a) steps id → Comes (Some a) (None ∷ steps) id
    from_first a (alone g) = alone g
    from_first a (led start g) = led (suc start) g

    from_next : (b : ℕ) → Comes (Some b) steps id → Comes None (Some b ∷ steps) id
    from_next b (alone g) = led zero g
    from_next b (led start g) = led (suc start) g

    least_on : (x : Option ℕ) → IfSome x (λ other. id ≤ other)
        → ((other : ℕ) → (end : ℕ) → led_from steps other ≡ Some end → id ≤ end)
        → (other : ℕ) → (end : ℕ) → led_from (x ∷ steps) other ≡ Some end → id ≤ end
    least_on None below rest zero end e = absurd (cc)
    least_on (Some b) below rest zero end e = let same : b ≡ end = cc in omega arith
    least_on x below rest (suc other) end e = rest other end e

    joined : (first x : Option ℕ) → IsLeast (lesser first x) steps id → IsLeast first (x ∷ steps) id
    joined None None l = record {
      comes = comes_on None steps id l.comes;
      before = tt;
      least =
          least_on None tt l.least;
    }
    joined None (Some b) l = record {
      comes = from_next b l.comes;
      before = tt;
      least =
          least_on (Some b) l.before l.least;
    }
    joined (Some a) None l = record {
      comes = from_first a l.comes;
      before = l.before;
      least =
          least_on None tt l.least;
    }
    joined (Some a) (Some b) l = record {
      comes = from_either a b (ltb a b) refl l.comes;
      before = omega (arith, l.before);
      least = least_on (Some b) (omega (arith, l.before)) l.least;
    }

-- no steps lead anywhere where their least end isn't there
pub none_led : (o : Option ℕ) (steps : List (Option ℕ)) → o ≡ fold lesser None steps → IsNone o → (id : ℕ)
    → led_from steps id ≡ None
none_led None steps e none id = (no_ends None steps (sym e)).none id
none_led (Some x) steps e none id = absurd (cc)

-- the least end of steps is the least shape to which they lead
pub least_led : (o : Option ℕ) (steps : List (Option ℕ)) → o ≡ fold lesser None steps → IfSome o (IsLeastEnd steps)
least_led None steps e = tt
least_led (Some id) steps e = from l.comes
  where
    l : IsLeast None steps id
    l = least_end None steps id (sym e)

    from : Comes None steps id → IsLeastEnd steps id
    from (alone h) = absurd (cc)
    from (led start h) = record { start = start; leads = h; least = l.least }

-- where walks that are longer than the table lead nowhere, there is no cycle
pub no_cycle : (shapes : List PlainShape) (many : ℕ) (steps : List (Option ℕ)) → AreWalks shapes many steps
    → ((id : ℕ) → led_from steps id ≡ None)
    → (id : ℕ) → IsCycle shapes id → ⊥
no_cycle shapes many steps are none id cycle =
    let r = cycle_reached shapes many id cycle in
    let there : led_from steps r.0 ≡ Some id = are r.0 ∙ r.1 in
    let gone : led_from steps r.0 ≡ None = none r.0 in
    cc

-- the least shape to which walks lead that are longer than the table is the first on a cycle
pub least_cycle : (shapes : List PlainShape) (many : ℕ) (steps : List (Option ℕ)) (id : ℕ) → length shapes < many
    → AreWalks shapes many steps → IsLeastEnd steps id
    → IsFirstCycle shapes id
least_cycle shapes many steps id long are l = record {
  before = λ other less cycle. (let r = cycle_reached shapes many other cycle in
      absurd (omega (arith, less, l.least r.0 other (are r.0 ∙ r.1))));
  cycle = long_walk shapes many l.start id long (sym (are l.start) ∙ l.leads);
}

-- both for what the search for the least end answers
pub cycle_none : (shapes : List PlainShape) (many : ℕ) (steps : List (Option ℕ)) (o : Option ℕ)
    → AreWalks shapes many steps
    → (IsNone o → (id : ℕ) → led_from steps id ≡ None) → IsNone o → (id : ℕ) → IsCycle shapes id → ⊥
cycle_none shapes many steps o are none gone = no_cycle shapes many steps are (none gone)

pub cycle_some : (shapes : List PlainShape) (many : ℕ) (steps : List (Option ℕ)) (o : Option ℕ) → length shapes < many
    → AreWalks shapes many steps
    → IfSome o (IsLeastEnd steps) → IfSome o (IsFirstCycle shapes)
cycle_some shapes many steps None long are l = tt
cycle_some shapes many steps (Some id) long are l = least_cycle shapes many steps id long are l

-- the doubling turns one list into the next
pub doubles : (shapes : List PlainShape) (n m : ℕ) (steps twice : List (Option ℕ)) → n + n ≡ m
    → twice ≡ map (led_on steps) steps → AreWalks shapes n steps → AreWalks shapes m twice
doubles shapes n m steps twice sum made are id =
    ap (λ l. led_from l id) made ∙ (are_doubled shapes n steps are id ∙ ap (λ k. walk shapes k id) sum)
