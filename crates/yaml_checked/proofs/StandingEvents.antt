-- Events that stand in a text between two places.
use Rattle.std.proofs.Common.{◌≡◌, ◌+◌, ℕ, zero, suc, ◌≤◌, List, [], ◌∷◌, ◌++◌, arith, length, ◌==◌, ◌&&◌, ◌∙◌, None}
use Rattle.std.proofs.Common.{ap, eq-eqb, false, not, subst, sym, true}
use Rattle.std.specs.Prelude.{All, IfSome, IsSomeAnd, nat_le}
use Rattle.std.proofs.lemmas.Bool.{and_parts, eqb-true, false≢true, not-true}
use Rattle.std.specs.List.Sorted.{IsNonDecreasingBy}
use Rattle.std.proofs.lemmas.List.Elements.{All-cons, All-nil, All-weaker}
use Rattle.yaml_base.specs.Places.{place_of}
use Rattle.yaml_base.specs.PlainEvent.{PlainEvent}
use Rattle.yaml_base.specs.Position.{Position}
use Rattle.yaml_grammar.specs.Nodes.{Marked, end_mark, mark}
use Rattle.yaml_parse.specs.Places.{IsInPlace}
use Rattle.yaml_parse.specs.PlainText.{SaysItsSource, SaysSource, scalar_in}
use Rattle.yaml_parse.specs.Shown.{IsShown, StandsAt}
use Rattle.yaml_checked.proofs.StandingTapes.{placed_at}
use Rattle.yaml_checked.proofs.WithinText.{by_test}

-- the mark of an event is in place, and its source stands in the text and is said if it is one line
pub record EventStands (text : List ℕ) (e : Marked) : Type 0 where
  pub placed : IsInPlace text e.1
  pub shown : IsShown text e.0 e.1
  pub says : SaysSource e.0

-- an event that is no scalar has no source
pub no_scalar : (text : List ℕ) (event : PlainEvent) (m : Position) → scalar_in event ≡ None → IsInPlace text m
    → EventStands text (event, m)
no_scalar text event m none placed = record {
  placed = placed;
  shown = subst (λ o. IfSome o (λ s. IsSomeAnd s.source (StandsAt text m.index))) (sym none) tt;
  says = subst (λ o. IfSome o SaysItsSource) (sym none) tt;
}

-- the mark of a place is in place
pub placed : (text : List ℕ) (i : ℕ) → IsInPlace text (mark text i)
placed text i = placed_at text i false (λ e. absurd (false≢true e)) (λ e. absurd (false≢true e))

-- and so is the one where what stands in a column ends
pub end_placed : (text : List ℕ) (c j : ℕ) → IsInPlace text (end_mark text c j)
end_placed text c j =
    let place = place_of text j in
    let amid = not (place.1 == 0) && nat_le c place.1 in
    by_test (IsInPlace text) (j == length text && amid)
    (record { index = j; line = place.0 + 1; column = 0 }) (mark text j)
    (λ late.
    let both = and_parts (j == length text) amid late in
    let same = eqb-true j (length text) both.0 in
    let some = (and_parts (not (place.1 == 0)) (nat_le c place.1) both.1).0 in
    placed_at text j true (λ _. same)
    (λ _ zero. false≢true (sym (not-true (place.1 == 0) some)
    ∙ eq-eqb place.1 0 (ap (λ k. (place_of text k).1) same ∙ zero))))
    (λ _. placed text j)

-- from one place up to another, one after the other
abbrev pub StandBetween : List ℕ → (low high : ℕ) → List Marked → Type 0
StandBetween text low high [] = low ≤ high
StandBetween text low high (e ∷ es) =
    (low ≤ e.1.index) × EventStands text e × StandBetween text e.1.index high es

pub goes_up : (text : List ℕ) (low high : ℕ) (es : List Marked) → StandBetween text low high es → low ≤ high
goes_up text low high [] stand = stand
goes_up text low high (e ∷ es) stand = omega (arith, stand.0, goes_up text e.1.index high es stand.2)

-- from an earlier place, up to a later one
pub from_earlier : (text : List ℕ) (low lower high : ℕ) (es : List Marked) → lower ≤ low
    → StandBetween text low high es → StandBetween text lower high es
from_earlier text low lower high [] le stand = omega (arith, stand)
from_earlier text low lower high (e ∷ es) le stand = (omega (arith, stand.0), stand.1, stand.2)

pub up_to_later : (text : List ℕ) (low high higher : ℕ) (es : List Marked) → high ≤ higher
    → StandBetween text low high es → StandBetween text low higher es
up_to_later text low high higher [] le stand = omega (arith, stand)
up_to_later text low high higher (e ∷ es) le stand =
    (stand.0, stand.1, up_to_later text e.1.index high higher es le stand.2)

-- one behind the other
pub joined : (text : List ℕ) (low between high : ℕ) (es fs : List Marked) → StandBetween text low between es
    → StandBetween text between high fs → StandBetween text low high (es ++ fs)
joined text low between high [] fs front back = from_earlier text between low high fs front back
joined text low between high (e ∷ es) fs front back =
    (front.0, front.1, joined text e.1.index between high es fs front.2 back)

-- so all are within the text, and stand there
pub all_within : (text : List ℕ) (low high : ℕ) (es : List Marked) → StandBetween text low high es
    → All (λ (e : Marked). e.1.index ≤ high) es
all_within text low high [] stand = All-nil _
all_within text low high (e ∷ es) stand =
    All-cons (λ (x : Marked). x.1.index ≤ high) e es (goes_up text e.1.index high es stand.2)
    (all_within text e.1.index high es stand.2)

all_behind : (text : List ℕ) (low high : ℕ) (es : List Marked) → StandBetween text low high es
    → All (λ (e : Marked). low ≤ e.1.index) es
all_behind text low high [] stand = All-nil _
all_behind text low high (e ∷ es) stand =
    All-cons (λ (x : Marked). low ≤ x.1.index) e es stand.0
    (All-weaker (λ (x : Marked). e.1.index ≤ x.1.index) (λ (x : Marked). low ≤ x.1.index)
    (λ x le. omega (arith, le, stand.0)) es (all_behind text e.1.index high es stand.2))

-- a number before others that do not fall
rise_behind : {A : Type 0} (number : A → ℕ) (x : A) (xs : List A) → All (λ y. number x ≤ number y) xs
    → IsNonDecreasingBy number xs → IsNonDecreasingBy number (x ∷ xs)
rise_behind number x xs all rise zero zero d le less = omega arith
rise_behind number x xs all rise zero (suc j) d le less = all j d (omega (arith, less))
rise_behind number x xs all rise (suc i) zero d le less = absurd (omega (arith, le))
rise_behind number x xs all rise (suc i) (suc j) d le less = rise i j d (omega (arith, le)) (omega (arith, less))

pub all_ascend : (text : List ℕ) (low high : ℕ) (es : List Marked) → StandBetween text low high es
    → IsNonDecreasingBy (λ (e : Marked). e.1.index) es
all_ascend text low high [] stand = λ i j d le less. absurd (omega (arith, less))
all_ascend text low high (e ∷ es) stand =
    rise_behind (λ (x : Marked). x.1.index) e es (all_behind text e.1.index high es stand.2)
    (all_ascend text e.1.index high es stand.2)

pub all_stand : (text : List ℕ) (low high : ℕ) (es : List Marked) → StandBetween text low high es
    → All (EventStands text) es
all_stand text low high [] stand = All-nil _
all_stand text low high (e ∷ es) stand =
    All-cons (EventStands text) e es stand.1 (all_stand text e.1.index high es stand.2)

-- what stands within the text, up to a place of it
abbrev pub StandUpTo : List ℕ → (i j : ℕ) → List Marked → Type 0
StandUpTo text i j es = StandBetween text i j es × (j ≤ length text)

-- some, and others behind them
pub both : (text : List ℕ) (i j k e : ℕ) (es fs : List Marked) → StandUpTo text i j es → j ≤ k → StandUpTo text k e fs
    → StandUpTo text i e (es ++ fs)
both text i j k e es fs front le back =
    (joined text i j e es fs front.0 (from_earlier text k j e fs le back.0), back.1)

-- what a collection holds, between its first event and its last
pub collected : (text : List ℕ) (i k j : ℕ) (first last : PlainEvent) (end : Position) (es : List Marked)
    → scalar_in first ≡ None → scalar_in last ≡ None → IsInPlace text end → i ≤ k → StandUpTo text k j es
    → j ≤ end.index → end.index ≤ length text
    → StandUpTo text i end.index ((first, mark text i) ∷ (es ++ (last, end) ∷ []))
collected text i k j first last end es opening closing there low stand ends within = (
  (
    omega arith,
    no_scalar text first (mark text i) opening (placed text i),
    joined text i j end.index es ((last, end) ∷ []) (from_earlier text k i j es low stand.0)
        (ends, no_scalar text last end closing there, omega arith),
  ),
  within,
)
