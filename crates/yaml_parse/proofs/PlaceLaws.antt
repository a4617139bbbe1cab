-- How lines and columns are counted.
use Rattle.std.proofs.Common.{ℕ, zero, suc, ◌+◌, ◌≤◌, ◌≡◌, ◌∙◌, List, Bool, true, false, add-one, ap, sym, subst, arith}
use Rattle.std.proofs.Common.{if◌then◌else◌}
use Rattle.yaml_base.specs.Places.{begins_character, ends_line, place_behind, place_of}

-- behind a byte with which a line ends, behind one with which a character begins, and behind any other
behind_end : (text : List ℕ) (at : ℕ) (place : ℕ × ℕ) → ends_line text at ≡ true
    → place_behind text at place ≡ (place.0 + 1, 0)
behind_end text at place ends =
    ap (λ b. if b then (place.0 + 1, 0) else (if begins_character text at then (place.0, place.1 + 1) else place)) ends

behind_character : (text : List ℕ) (at : ℕ) (place : ℕ × ℕ) → ends_line text at ≡ false
    → begins_character text at ≡ true → place_behind text at place ≡ (place.0, place.1 + 1)
behind_character text at place none begins =
    ap (λ b. if b then (place.0 + 1, 0) else (if begins_character text at then (place.0, place.1 + 1) else place)) none
    ∙ ap (λ b. if b then (place.0, place.1 + 1) else place) begins

behind_rest : (text : List ℕ) (at : ℕ) (place : ℕ × ℕ) → ends_line text at ≡ false
    → begins_character text at ≡ false → place_behind text at place ≡ place
behind_rest text at place none rest =
    ap (λ b. if b then (place.0 + 1, 0) else (if begins_character text at then (place.0, place.1 + 1) else place)) none
    ∙ ap (λ b. if b then (place.0, place.1 + 1) else place) rest

goes_on : (text : List ℕ) (at : ℕ) (place next : ℕ × ℕ) → place ≡ place_of text at → place_behind text at place ≡ next
    → next ≡ place_of text (at + 1)
goes_on text at place next was is =
    sym is ∙ ap (place_behind text at) was ∙ ap (place_of text) (sym (add-one at))

-- so the place of the next byte is counted on
pub goes_to_line : (text : List ℕ) (at line column next first : ℕ) → (line, column) ≡ place_of text at
    → ends_line text at ≡ true → next ≡ line + 1 → first ≡ 0 → (next, first) ≡ place_of text (at + 1)
goes_to_line text at line column next first was ends more none =
    ap (λ n. (n, first)) more ∙ ap (λ n. (line + 1, n)) none
    ∙ goes_on text at (line, column) (line + 1, 0) was (behind_end text at (line, column) ends)

pub goes_to_column : (text : List ℕ) (at line column same next : ℕ) → (line, column) ≡ place_of text at
    → ends_line text at ≡ false → begins_character text at ≡ true → same ≡ line → next ≡ column + 1
    → (same, next) ≡ place_of text (at + 1)
goes_to_column text at line column same next was none begins on more =
    ap (λ n. (n, next)) on ∙ ap (λ n. (line, n)) more
    ∙ goes_on text at (line, column) (line, column + 1) was (behind_character text at (line, column) none begins)

pub stays_there : (text : List ℕ) (at line column same still : ℕ) → (line, column) ≡ place_of text at
    → ends_line text at ≡ false → begins_character text at ≡ false → same ≡ line → still ≡ column
    → (same, still) ≡ place_of text (at + 1)
stays_there text at line column same still was none rest on there =
    ap (λ n. (n, still)) on ∙ ap (λ n. (line, n)) there
    ∙ goes_on text at (line, column) (line, column) was (behind_rest text at (line, column) none rest)

counted_on : (ends begins : Bool) (i : ℕ) (place : ℕ × ℕ) → place.0 + place.1 ≤ i
    → (if ends then (place.0 + 1, 0) else (if begins then (place.0, place.1 + 1) else place)).0
    + (if ends then (place.0 + 1, 0) else (if begins then (place.0, place.1 + 1) else place)).1 ≤ suc i
counted_on true begins i place h = omega arith
counted_on false true i place h = omega arith
counted_on false false i place h = omega arith

counted : (text : List ℕ) (i : ℕ) → (place_of text i).0 + (place_of text i).1 ≤ i
counted text zero = omega arith
counted text (suc i) = counted_on (ends_line text i) (begins_character text i) i (place_of text i) (counted text i)

-- the lines and the columns before a byte are together no more than the bytes
pub place_within : (text : List ℕ) (i line column : ℕ) → (line, column) ≡ place_of text i → line + column ≤ i
place_within text i line column is = subst (λ (p : ℕ × ℕ). p.0 + p.1 ≤ i) (sym is) (counted text i)
