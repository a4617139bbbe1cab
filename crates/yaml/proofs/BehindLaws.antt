-- The place behind a node, by the numbers of a document's events.
use Rattle.std.proofs.Common.{◌≡◌, ◌∙◌, ℕ, zero, suc, ◌+◌, ◌≤◌, List, [], ◌∷◌, map, length, Some, None, Bool}
use Rattle.std.proofs.Common.{true, false, refl, sym, ap, arith, if◌then◌else◌, ◌==◌, ◌&&◌}
use Rattle.std.specs.Prelude.{slice_get}
use Rattle.std.specs.Option.{option_map_or}
use Rattle.yaml_base.specs.PlainDocEvent.{PlainDocEvent}
use Rattle.yaml_base.specs.PlainDocument.{PlainDocument}
use Rattle.yaml.specs.Around.{place_behind_node}
use Rattle.yaml_load.specs.Ends.{end_place, ends_from, ends_of, inner_after, is_closing, is_opening}

-- a collection ends by the end of the events
end_to : (inner place : ℕ) (events : List PlainDocEvent) → end_place inner place events ≤ place + length events
end_to inner place [] = omega arith
end_to inner place (e ∷ events) = chosen (is_closing e && (inner == 0))
    (end_to (inner_after e inner) (place + 1) events)
  where
    chosen : (b : Bool) {q : ℕ} → q ≤ place + 1 + length events → (if b then place else q) ≤ place + suc (length events)
    chosen true h = omega arith
    chosen false h = omega arith

number_to : (events : List PlainDocEvent) (place number end : ℕ) → slice_get (ends_from place events) number ≡ Some end
    → end ≤ place + length events
number_to [] place number end h = absurd cc
number_to (e ∷ events) place zero end h = chosen (is_opening e) h
  where
    chosen : (b : Bool) → Some (if b then end_place 0 (place + 1) events else place) ≡ Some end
        → end ≤ place + suc (length events)
    chosen true h =
        let is : end_place 0 (place + 1) events ≡ end = cc in
        let high = end_to 0 (place + 1) events in
        omega arith
    chosen false h = let is : place ≡ end = cc in omega arith
number_to (e ∷ events) place (suc number) end h =
    let high = number_to events (place + 1) number end h in
    omega arith

length-ends_from : (place : ℕ) (events : List PlainDocEvent) → length (ends_from place events) ≡ length events
length-ends_from place [] = refl
length-ends_from place (e ∷ events) = ap suc (length-ends_from (place + 1) events)

-- no number is past the numbers
pub end_within : (ends : List ℕ) (document : PlainDocument) (place end : ℕ)
    → ends ≡ ends_of (map (λ e. e.0) document.events) → slice_get ends place ≡ Some end → end ≤ length ends
end_within ends document place end are found =
    let events = map (λ e. e.0) document.events in
    let high = number_to events 0 place end (sym (ap (λ xs. slice_get xs place) are) ∙ found) in
    let long = ap length are ∙ length-ends_from 0 events in
    omega arith

-- the place behind the node in a place is behind its number
pub behind_number : (ends : List ℕ) (document : PlainDocument) (place end : ℕ)
    → ends ≡ ends_of (map (λ e. e.0) document.events) → slice_get ends place ≡ Some end
    → place_behind_node document place ≡ end + 1
behind_number ends document place end are found =
    ap (λ o. option_map_or (λ e. e + 1) o place) (sym (ap (λ xs. slice_get xs place) are) ∙ found)

-- where there is none, it is the same place
pub behind_nothing : (ends : List ℕ) (document : PlainDocument) (place : ℕ)
    → ends ≡ ends_of (map (λ e. e.0) document.events) → slice_get ends place ≡ None
    → place_behind_node document place ≡ place
behind_nothing ends document place are found =
    ap (λ o. option_map_or (λ e. e + 1) o place) (sym (ap (λ xs. slice_get xs place) are) ∙ found)
