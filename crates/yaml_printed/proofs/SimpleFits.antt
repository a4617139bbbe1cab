-- A simple text may stand without quotes.
use Rattle.std.proofs.Common.{◌≡◌, ℕ, zero, suc, ◌<◌, ◌≤◌, ◌==◌, ◌&&◌, ◌||◌, not, Bool, true, false, refl, sym, ap, ◌∙◌}
use Rattle.std.proofs.Common.{arith, List, [], ◌∷◌, length, codes, nat_eq, get_or}
use Rattle.std.proofs.lemmas.Bool.{and_from, and_parts, or_from, false≢true, le-leb, ne_eqb}
use Rattle.std.proofs.lemmas.Str.{IsUtf8-from_ascii, chars-encodes, encodes-IsAscii}
use Rattle.std.specs.List.{list_all, starts_with}
use Rattle.std.specs.Str.{IsUtf8, chars}
use lib.Utf8.{scalar, scalars}
use Rattle.yaml_emit.specs.Characters.{is_printable}
use Rattle.yaml_emit.specs.Styles.{begins_otherwise, ends_with_byte, fits_plain, has_behind, is_dash, is_first}
use Rattle.yaml_emit.specs.Styles.{is_indicator, stand_side_by_side}
use Rattle.yaml_grammar.proofs.PlainLaws.{not_true}
use Rattle.yaml_printed.specs.Simple.{is_simple, is_simple_byte}
use Rattle.yaml_printed.proofs.PlainFits.{last_on}
use Rattle.yaml_printed.proofs.Words.{and_no}

low_of : (c : ℕ) → is_simple_byte c ≡ true → c < 123
low_of c h = grind (arith, h)

high_of : (c : ℕ) → is_simple_byte c ≡ true → 43 ≤ c
high_of c h = grind (arith, h)

-- it is no byte that is none
other : (c k : ℕ) → is_simple_byte k ≡ false → is_simple_byte c ≡ true → (c == k) ≡ false
other c k none h = ne_eqb c k (λ e. absurd (false≢true (sym none ∙ (ap is_simple_byte (sym e) ∙ h))))

no_indicator : (c : ℕ) → is_simple_byte c ≡ true → is_indicator c ≡ false
no_indicator c h =
    rw (
      other c 35 refl h,
      other c 44 refl h,
      other c 91 refl h,
      other c 93 refl h,
      other c 123 refl h,
      other c 125 refl h,
      other c 38 refl h,
      other c 42 refl h,
      other c 33 refl h,
      other c 124 refl h,
      other c 62 refl h,
      other c 39 refl h,
      other c 34 refl h,
      other c 37 refl h,
      other c 64 refl h,
      other c 96 refl h,
    ) refl

ends_no : (b : ℕ) → is_simple_byte b ≡ false → (c : ℕ) (cs : List ℕ) → list_all is_simple_byte (c ∷ cs) ≡ true
    → ends_with_byte b (c ∷ cs) ≡ false
ends_no b none c [] h = other c b none (and_parts (is_simple_byte c) true h).0
ends_no b none c (d ∷ ds) h =
    last_on b c d ds ∙ ends_no b none d ds (and_parts (is_simple_byte c) (list_all is_simple_byte (d ∷ ds)) h).1

behind_no : (a b : ℕ) → is_simple_byte b ≡ false → (before : Bool) (cs : List ℕ) → list_all is_simple_byte cs ≡ true
    → has_behind a b before cs ≡ false
behind_no a b none before [] h = refl
behind_no a b none before (c ∷ cs) h =
    let p = and_parts (is_simple_byte c) (list_all is_simple_byte cs) h in
    or_from (before && c == b) (has_behind a b (c == a) cs)
    (ap (λ x. before && x) (other c b none p.0) ∙ and_no before) (behind_no a b none (c == a) cs p.1)

scalar_of : (c : ℕ) → c < 123 → scalar c ≡ true
scalar_of c low = grind (arith, low)

scalars_of : (t : List ℕ) → list_all is_simple_byte t ≡ true → scalars t ≡ true
scalars_of [] h = refl
scalars_of (c ∷ cs) h =
    let p = and_parts (is_simple_byte c) (list_all is_simple_byte cs) h in
    and_from (scalar c) (scalars cs) (scalar_of c (low_of c p.0)) (scalars_of cs p.1)

ascii_of : (t : List ℕ) → list_all is_simple_byte t ≡ true → (i : ℕ) → get_or t i 0 < 128
ascii_of [] h i = omega arith
ascii_of (c ∷ cs) h zero = omega (arith, low_of c (and_parts (is_simple_byte c) (list_all is_simple_byte cs) h).0)
ascii_of (c ∷ cs) h (suc i) = ascii_of cs (and_parts (is_simple_byte c) (list_all is_simple_byte cs) h).1 i

-- it is UTF-8
pub simple_utf8 : (t : List ℕ) → is_simple t ≡ true → IsUtf8 t
simple_utf8 t h = IsUtf8-from_ascii t (ascii_of t (and_parts (list_all is_simple_byte t) _ h).0)

characters_of : (t : List ℕ) → list_all is_simple_byte t ≡ true → chars t ≡ t
characters_of t h = ap chars (sym (encodes-IsAscii t (ascii_of t h))) ∙ chars-encodes t (scalars_of t h)

printable_of : (t : List ℕ) → list_all is_simple_byte t ≡ true → list_all is_printable t ≡ true
printable_of [] h = refl
printable_of (c ∷ cs) h =
    let p = and_parts (is_simple_byte c) (list_all is_simple_byte cs) h in
    and_from (is_printable c) (list_all is_printable cs)
    (rw (le-leb 32 c (omega (arith, high_of c p.0)), le-leb c 126 (omega (arith, low_of c p.0))) refl)
    (printable_of cs p.1)

no_dash_alone : (c : ℕ) (cs : List ℕ) → list_all is_simple_byte (c ∷ cs) ≡ true
    → (is_first 45 (c ∷ cs) && length (c ∷ cs) == 1) ≡ false → (is_dash c && (length cs == 0 || is_first 32 cs)) ≡ false
no_dash_alone c [] h e =
    let s = (and_parts (is_simple_byte c) true h).0 in
    rw (other c 63 refl s, other c 58 refl s) (go (c == 45) e)
  where
    go : (x : Bool) → (x && true) ≡ false → (((x || false) || false) && (true || false)) ≡ false
    go true e = e
    go false e = refl
no_dash_alone c (d ∷ ds) h e =
    let p = and_parts (is_simple_byte c) (list_all is_simple_byte (d ∷ ds)) h in
    let q = and_parts (is_simple_byte d) (list_all is_simple_byte ds) p.1 in
    ap (λ x. is_dash c && (length (d ∷ ds) == 0 || x)) (other d 32 refl q.0)
    ∙ (ap (λ x. is_dash c && (x || false)) (ne_eqb (suc (length ds)) 0 (λ z. absurd (omega (arith, z))))
    ∙ and_no (is_dash c))

not_of : (x : Bool) → x ≡ false → not x ≡ true
not_of x e = ap not e

empty_fits : fits_plain [] ≡ true
unfolding chars
empty_fits = refl

pub simple_fits : (t : List ℕ) → is_simple t ≡ true → fits_plain t ≡ true
simple_fits [] h = empty_fits
simple_fits (c ∷ cs) h =
    let t = c ∷ cs in
    let p = and_parts (list_all is_simple_byte t) (not (starts_with nat_eq t (codes "---"))
    && (not (starts_with nat_eq t (codes "...")) && not (is_first 45 t && length t == 1))) h in
    let q = and_parts (not (starts_with nat_eq t (codes "---"))) (not (starts_with nat_eq t (codes "..."))
    && not (is_first 45 t && length t == 1)) p.1 in
    let r = and_parts (not (starts_with nat_eq t (codes "..."))) (not (is_first 45 t && length t == 1)) q.1 in
    let first = (and_parts (is_simple_byte c) (list_all is_simple_byte cs) p.0).0 in
    let begins : begins_otherwise t ≡ false
    = or_from _ _ (or_from _ _ (or_from _ _ (no_indicator c first) (not_true (starts_with nat_eq t (codes "---")) q.0))
    (not_true (starts_with nat_eq t (codes "...")) r.0))
    (no_dash_alone c cs p.0 (not_true (is_first 45 t && length t == 1) r.1)) in
    and_from _ _ (and_from _ _ (and_from _ _ (and_from _ _ (and_from _ _
    (and_from _ _ (not_of (begins_otherwise t) begins)
    (not_of (is_first 32 t) (other c 32 refl first))) (not_of (ends_with_byte 32 t) (ends_no 32 refl c cs p.0)))
    (not_of (ends_with_byte 58 t) (ends_no 58 refl c cs p.0)))
    (not_of (stand_side_by_side 58 32 t) (behind_no 58 32 refl false t p.0)))
    (not_of (stand_side_by_side 32 35 t) (behind_no 32 35 refl false t p.0)))
    (ap (list_all is_printable) (characters_of t p.0) ∙ printable_of t p.0)
