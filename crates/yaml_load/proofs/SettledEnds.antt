-- The ends of a document's known events are those of the draft, cut off where an alias is unknown.
use Rattle.std.specs.Prelude.{◌≡◌, ◌+◌, ◌≤◌, ◌∷◌, ◌&&◌, ◌==◌}
use Rattle.yaml_load.proofs.Words.{ℕ, suc, List, [], map, length, take, min, refl, sym, ◌∙◌, ap, arith, take_all}
use Rattle.yaml_load.proofs.Words.{Option, Some, None, Bool, true, false, inl, inr, option_map, cond, cases_Bool}
use Rattle.yaml_load.proofs.Words.{length-map, Position, PlainEvent, alias, Find, Input, becomes, known_events, or_mark}
use Rattle.yaml_load.proofs.Words.{then_events, unknown_mark, end_place, ends_from, ends_of, inner_after, is_closing}
use Rattle.yaml_load.proofs.Words.{is_opening, PlainDocEvent, alias_to, drafted, drafts_of, Marked}
use Rattle.yaml_load.proofs.Gatherings.{length-ends_from}

-- how an event and what it becomes begin and end collections
abbrev Alike : PlainEvent → Option PlainDocEvent → Type 0
Alike e None = (is_opening (drafted e) ≡ false) × (is_closing (drafted e) ≡ false)
Alike e (Some d) = (is_opening d ≡ is_opening (drafted e)) × (is_closing d ≡ is_closing (drafted e))

alike_alias : (a : List ℕ) (o : Option ℕ) → Alike (alias a) (option_map alias_to o)
alike_alias a None = (refl, refl)
alike_alias a (Some t) = (refl, refl)

alike : (find : Find) (place : ℕ) (e : PlainEvent) → Alike e (becomes find place e)
alike find place (alias a) = alike_alias a (find a place)
alike find place _ = (refl, refl)

-- the events without their marks
abbrev bare : Marked → List PlainDocEvent
bare events = map (λ e. e.0) events

-- a collection ends no earlier than the place that is looked at
end_from : (inner place : ℕ) (events : List PlainDocEvent) → place ≤ end_place inner place events
end_from inner place [] = omega arith
end_from inner place (e ∷ events) = grind (arith, end_from (inner_after e inner) (place + 1) events)

-- a collection ends by the end of the events
end_to : (inner place : ℕ) (events : List PlainDocEvent) → end_place inner place events ≤ place + length events
end_to inner place [] = omega arith
end_to inner place (e ∷ events) = grind (arith, end_to (inner_after e inner) (place + 1) events)

-- the ends of known events are bounded by how many there are
end_cut_by : (o : Option PlainDocEvent) (e : PlainEvent) (mark : Position) (known : Marked)
    (drafts : List PlainDocEvent)
    (inner place : ℕ) → Alike e o
    → ((i p : ℕ) → end_place i p (bare known) ≡ min (p + length known) (end_place i p drafts))
    → end_place inner place (bare (then_events o mark known))
    ≡ min (place + length (then_events o mark known)) (end_place inner place (drafted e ∷ drafts))
end_cut_by None e mark known drafts inner place a later =
    let h = end_from inner place (drafted e ∷ drafts) in omega arith
end_cut_by (Some d) e mark known drafts inner place a later =
    elim (cases_Bool (is_closing (drafted e) && (inner == 0))) [
      | inl here ↦ rw (a.0, a.1, here) (omega arith)
      | inr there ↦ rw (a.0, a.1, there) (let h = later (inner_after (drafted e) inner) (place + 1) in omega arith)
    ]

end_cut : (find : Find) (seen : Input) (from inner place : ℕ)
    → end_place inner place (bare (known_events find from seen))
    ≡ min (place + length (known_events find from seen)) (end_place inner place (drafts_of seen))
end_cut find [] from inner place = omega arith
end_cut find (e ∷ seen) from inner place =
    end_cut_by (becomes find from e.0) e.0 e.1 (known_events find (from + 1) seen) (drafts_of seen) inner place
    (alike find from e.0) (end_cut find seen (from + 1))

-- so are all numbers
number_cut : (o : Bool) (x y place bound : ℕ) → x ≡ min bound y → place ≤ bound → cond o x place
    ≡ min bound (cond o y place)
number_cut true x y place bound h l = h
number_cut false x y place bound h l = omega arith

ends_cut_by : (o : Option PlainDocEvent) (e : PlainEvent) (mark : Position) (known : Marked)
    (drafts : List PlainDocEvent)
    (place : ℕ) → Alike e o
    → end_place 0 (place + 1) (bare known) ≡ min (place + 1 + length known) (end_place 0 (place + 1) drafts)
    → ends_from (place + 1) (bare known) ≡ map (min (place + 1 + length known))
    (take (length known) (ends_from (place + 1) drafts))
    → ends_from place (bare (then_events o mark known))
    ≡ map (min (place + length (then_events o mark known)))
    (take (length (then_events o mark known)) (ends_from place (drafted e ∷ drafts)))
ends_cut_by None e mark known drafts place a here later = refl
ends_cut_by (Some d) e mark known drafts place a here later =
    let n : place + 1 + length known ≡ place + suc (length known) = omega arith in
    let first = number_cut (is_opening (drafted e)) _ (end_place 0 (place + 1) drafts) place
    (place + suc (length known)) (rw n at here) (omega arith) in
    rw (a.0, first, rw n at later)

ends_cut : (find : Find) (seen : Input) (from place : ℕ)
    → ends_from place (bare (known_events find from seen))
    ≡ map (min (place + length (known_events find from seen)))
    (take (length (known_events find from seen)) (ends_from place (drafts_of seen)))
ends_cut find [] from place = refl
ends_cut find (e ∷ seen) from place =
    ends_cut_by (becomes find from e.0) e.0 e.1 (known_events find (from + 1) seen) (drafts_of seen) place
    (alike find from e.0)
    (end_cut find seen (from + 1) 0 (place + 1)) (ends_cut find seen (from + 1) (place + 1))

-- where no alias is unknown all events are known
known_long_by : (o : Option PlainDocEvent) (mark : Position) (known : Marked) (later : Option Position) (n : ℕ)
    → (later ≡ None → length known ≡ n) → or_mark o mark later ≡ None → length (then_events o mark known) ≡ suc n
known_long_by None mark known later n h u = absurd cc
known_long_by (Some d) mark known later n h u = ap suc (h u)

known_long : (find : Find) (seen : Input) (from : ℕ) → unknown_mark find from seen ≡ None
    → length (known_events find from seen) ≡ length seen
known_long find [] from u = refl
known_long find (e ∷ seen) from u =
    known_long_by (becomes find from e.0) e.1 (known_events find (from + 1) seen) (unknown_mark find (from + 1) seen)
    (length seen)
    (known_long find seen (from + 1)) u

-- numbers of events are below how many there are
ends_whole : (events : List PlainDocEvent) (place bound : ℕ) → place + length events ≤ bound
    → map (min bound) (ends_from place events) ≡ ends_from place events
ends_whole [] place bound l = refl
ends_whole (e ∷ events) place bound l =
    ap (λ x. x ∷ map (min bound) (ends_from (place + 1) events))
    (sym (number_cut (is_opening e) (end_place 0 (place + 1) events) _ place bound
    (let h = end_to 0 (place + 1) events in omega arith) (omega arith)))
    ∙ ap (λ xs. cond (is_opening e) (end_place 0 (place + 1) events) place ∷ xs)
    (ends_whole events (place + 1) bound (omega arith))

-- the numbers of the document, whole or cut off
pub ends_of_cut : (find : Find) (seen : Input) (at : ℕ) → at ≡ length (known_events find 0 seen)
    → ends_of (bare (known_events find 0 seen)) ≡ map (min at) (take at (ends_of (drafts_of seen)))
ends_of_cut find seen at n =
    let known = length (known_events find 0 seen) in
    let z : 0 + known ≡ known = omega arith in
    rw (n, ends_cut find seen 0 0, z)

pub ends_of_whole : (find : Find) (seen : Input) → unknown_mark find 0 seen ≡ None
    → ends_of (bare (known_events find 0 seen)) ≡ ends_of (drafts_of seen)
ends_of_whole find seen u =
    let many = known_long find seen 0 u in
    let drafts = length-map seen (λ (e : PlainEvent × Position). drafted e.0) in
    ends_of_cut find seen (length seen) (sym many)
    ∙ ap (map (min (length seen)))
    (take_all (length seen) (ends_of (drafts_of seen)) (omega (arith, length-ends_from 0 (drafts_of seen), drafts)))
    ∙ ends_whole (drafts_of seen) 0 (length seen) (omega (arith, drafts))
