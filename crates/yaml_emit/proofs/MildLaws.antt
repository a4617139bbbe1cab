-- A text of printable bytes of ASCII without `:` and `#` goes on as a plain one, and stands in one line.
use Rattle.std.proofs.Common.{◌≡◌, ℕ, zero, suc, ◌<◌, ◌≤◌, ◌==◌, ◌&&◌, ◌||◌, not, Bool, true, false, refl, sym, ap, ◌∙◌}
use Rattle.std.proofs.Common.{arith, get_or, List, [], ◌∷◌}
use Rattle.std.proofs.lemmas.Bool.{and_from, and_parts, or_from, false≢true, le-leb, ne_eqb}
use Rattle.std.proofs.lemmas.Option.{slice_get_past}
use Rattle.std.proofs.lemmas.Str.{chars-IsAscii}
use Rattle.std.specs.List.{list_all, list_any, slice_get}
use Rattle.std.specs.Str.{chars}
use Rattle.yaml_emit.specs.Characters.{is_break, is_printable}
use Rattle.yaml_emit.specs.Styles.{ends_with_byte, goes_on_plain, has_behind, has_break, is_byte, is_mild}
use Rattle.yaml_emit.specs.Styles.{stand_side_by_side}

low_of : (c : ℕ) → is_mild c ≡ true → c < 127
low_of c h = grind (arith, h)

high_of : (c : ℕ) → is_mild c ≡ true → 32 ≤ c
high_of c h = grind (arith, h)

-- it is no byte that is none
other : (c k : ℕ) → is_mild k ≡ false → is_mild c ≡ true → (c == k) ≡ false
other c k none h = ne_eqb c k (λ e. absurd (false≢true (sym none ∙ (ap is_mild (sym e) ∙ h))))

nowhere : (b : ℕ) → is_mild b ≡ false → (t : List ℕ) → list_all is_mild t ≡ true → (i : ℕ)
    → is_byte b (slice_get t i) ≡ false
nowhere b none [] h i = ap (is_byte b) (slice_get_past [] i (omega arith))
nowhere b none (c ∷ cs) h zero = other c b none (and_parts (is_mild c) (list_all is_mild cs) h).0
nowhere b none (c ∷ cs) h (suc i) = nowhere b none cs (and_parts (is_mild c) (list_all is_mild cs) h).1 i

and_no : (x : Bool) → (x && false) ≡ false
and_no true = refl
and_no false = refl

-- no byte stands before it
first_no : (a b : ℕ) → is_mild a ≡ false → (cs : List ℕ) → list_all is_mild cs ≡ true → has_behind a b false cs ≡ false
first_no a b none [] h = refl
first_no a b none (c ∷ cs) h =
    let p = and_parts (is_mild c) (list_all is_mild cs) h in
    ap (λ x. has_behind a b x cs) (other c a none p.0) ∙ first_no a b none cs p.1

-- it stands behind no byte
second_no : (a b : ℕ) → is_mild b ≡ false → (before : Bool) (cs : List ℕ) → list_all is_mild cs ≡ true
    → has_behind a b before cs ≡ false
second_no a b none before [] h = refl
second_no a b none before (c ∷ cs) h =
    let p = and_parts (is_mild c) (list_all is_mild cs) h in
    or_from (before && c == b) (has_behind a b (c == a) cs)
    (ap (λ x. before && x) (other c b none p.0) ∙ and_no before) (second_no a b none (c == a) cs p.1)

ascii_of : (t : List ℕ) → list_all is_mild t ≡ true → (i : ℕ) → get_or t i 0 < 128
ascii_of [] h i = omega arith
ascii_of (c ∷ cs) h zero = omega (arith, low_of c (and_parts (is_mild c) (list_all is_mild cs) h).0)
ascii_of (c ∷ cs) h (suc i) = ascii_of cs (and_parts (is_mild c) (list_all is_mild cs) h).1 i

characters_of : (t : List ℕ) → list_all is_mild t ≡ true → chars t ≡ t
characters_of t h = chars-IsAscii t (ascii_of t h)

printable_of : (t : List ℕ) → list_all is_mild t ≡ true → list_all is_printable t ≡ true
printable_of [] h = refl
printable_of (c ∷ cs) h =
    let p = and_parts (is_mild c) (list_all is_mild cs) h in
    and_from (is_printable c) (list_all is_printable cs)
    (rw (le-leb 32 c (high_of c p.0), le-leb c 126 (omega (arith, low_of c p.0))) refl) (printable_of cs p.1)

no_break : (c : ℕ) → is_mild c ≡ true → is_break c ≡ false
no_break c h =
    rw (other c 10 refl h, other c 13 refl h, other c 0x85 refl h, other c 0x2028 refl h, other c 0x2029 refl h) refl

unbroken : (t : List ℕ) → list_all is_mild t ≡ true → list_any is_break t ≡ false
unbroken [] h = refl
unbroken (c ∷ cs) h =
    let p = and_parts (is_mild c) (list_all is_mild cs) h in
    or_from (is_break c) (list_any is_break cs) (no_break c p.0) (unbroken cs p.1)

not_of : (x : Bool) → x ≡ false → not x ≡ true
not_of x e = ap not e

pub mild_goes_on : (t : List ℕ) → list_all is_mild t ≡ true → goes_on_plain t ≡ true
mild_goes_on t h =
    and_from _ _ (and_from _ _ (and_from _ _ (not_of (ends_with_byte 58 t) (nowhere 58 refl t h _))
    (not_of (stand_side_by_side 58 32 t) (first_no 58 32 refl t h)))
    (not_of (stand_side_by_side 32 35 t) (second_no 32 35 refl false t h)))
    (ap (list_all is_printable) (characters_of t h) ∙ printable_of t h)

pub mild_is_one_line : (t : List ℕ) → list_all is_mild t ≡ true → has_break t ≡ false
mild_is_one_line t h = ap (list_any is_break) (characters_of t h) ∙ unbroken t h
