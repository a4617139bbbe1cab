-- The decimals of a number, with a sign or without, are a simple text, and not empty.
use Rattle.std.proofs.Common.{◌≡◌, ℕ, zero, suc, ◌<◌, ◌/◌, ◌%◌, ◌==◌, Bool, true, false, refl, sym}
use Rattle.std.proofs.Common.{ap, ◌∙◌, arith, ℤ, List, [], ◌∷◌, length, nat_eq}
use Rattle.std.proofs.lemmas.Bool.{and_from, and_parts, false≢true, ne_eqb}
use Rattle.std.specs.Char.{is_ascii_digit}
use Rattle.std.specs.Fmt.{digit_glyph, digits, digits_onto, signed_decimal}
use Rattle.std.specs.List.{list_all}
use Rattle.std.specs.Prelude.{decimal, if◌then◌else◌, pos, negsuc}
use Rattle.yaml_printed.specs.Simple.{is_simple, is_simple_byte}

-- some digits
record Digits (text : List ℕ) : Type 0 where
  pub first : ℕ
  pub rest : List ℕ
  pub same : text ≡ first ∷ rest
  pub all : list_all is_ascii_digit (first ∷ rest) ≡ true

digit_of : (d : ℕ) → d < 10 → is_ascii_digit (digit_glyph false d) ≡ true
digit_of d h = grind (arith, h)

last_digit : (n : ℕ) → is_ascii_digit (digit_glyph false (n % 10)) ≡ true
last_digit n = let low : n % 10 < 10 = omega arith in digit_of (n % 10) low

more_digits : (n : ℕ) (acc : List ℕ) → list_all is_ascii_digit acc ≡ true
    → list_all is_ascii_digit (digit_glyph false (n % 10) ∷ acc) ≡ true
more_digits n acc h =
    and_from (is_ascii_digit (digit_glyph false (n % 10))) (list_all is_ascii_digit acc) (last_digit n) h

either : (b : Bool) (xs ys : List ℕ) → Digits xs → Digits ys → Digits (if b then xs else ys)
either true xs ys x y = x
either false xs ys x y = y

digits_onto_some : (k n c : ℕ) (cs : List ℕ) → list_all is_ascii_digit (c ∷ cs) ≡ true
    → Digits (digits_onto k 10 false n (c ∷ cs))
digits_onto_some zero n c cs h = record { first = c; rest = cs; same = refl; all = h }
digits_onto_some (suc k) n c cs h =
    let d = digit_glyph false (n % 10) in
    let more = more_digits n (c ∷ cs) h in
    either (n / 10 == 0) (d ∷ c ∷ cs) (digits_onto k 10 false (n / 10) (d ∷ c ∷ cs))
    (record { first = d; rest = c ∷ cs; same = refl; all = more })
    (digits_onto_some k (n / 10) d (c ∷ cs) more)

digits_some : (k n : ℕ) → Digits (digits_onto (suc k) 10 false n [])
digits_some k n =
    let d = digit_glyph false (n % 10) in
    let more = more_digits n [] refl in
    either (n / 10 == 0) (d ∷ []) (digits_onto k 10 false (n / 10) (d ∷ []))
    (record { first = d; rest = []; same = refl; all = more })
    (digits_onto_some k (n / 10) d [] more)

decimal_digits : (n : ℕ) → Digits (decimal n)
unfolding digits
decimal_digits n = digits_some 63 n

simple_digit : (c : ℕ) → is_ascii_digit c ≡ true → is_simple_byte c ≡ true
simple_digit c h = grind (arith, h)

no_dash : (c : ℕ) → is_ascii_digit c ≡ true → (c == 45) ≡ false
no_dash c h = ne_eqb c 45 (λ e. absurd (false≢true (ap is_ascii_digit (sym e) ∙ h)))

dash_no : (c : ℕ) → is_ascii_digit c ≡ true → nat_eq 45 c ≡ false
dash_no c h = ne_eqb 45 c (λ e. absurd (false≢true (ap is_ascii_digit e ∙ h)))

dot_no : (c : ℕ) → is_ascii_digit c ≡ true → nat_eq 46 c ≡ false
dot_no c h = ne_eqb 46 c (λ e. absurd (false≢true (ap is_ascii_digit e ∙ h)))

simple_all : (cs : List ℕ) → list_all is_ascii_digit cs ≡ true → list_all is_simple_byte cs ≡ true
simple_all [] h = refl
simple_all (c ∷ cs) h =
    let p = and_parts (is_ascii_digit c) (list_all is_ascii_digit cs) h in
    and_from (is_simple_byte c) (list_all is_simple_byte cs) (simple_digit c p.0) (simple_all cs p.1)

-- a text that is simple, and not empty
pub record IsWord (text : List ℕ) : Type 0 where
  pub first : ℕ
  pub rest : List ℕ
  pub same : text ≡ first ∷ rest
  pub simple : is_simple text ≡ true

digits_simple : (c : ℕ) (cs : List ℕ) → list_all is_ascii_digit (c ∷ cs) ≡ true → is_simple (c ∷ cs) ≡ true
digits_simple c cs h =
    let d = (and_parts (is_ascii_digit c) (list_all is_ascii_digit cs) h).0 in
    and_from _ _ (simple_all (c ∷ cs) h) (rw (dash_no c d, dot_no c d, no_dash c d) refl)

minus_simple : (c : ℕ) (cs : List ℕ) → list_all is_ascii_digit (c ∷ cs) ≡ true → is_simple (45 ∷ c ∷ cs) ≡ true
minus_simple c cs h =
    let d = (and_parts (is_ascii_digit c) (list_all is_ascii_digit cs) h).0 in
    let long : (suc (suc (length cs)) == 1) ≡ false
    = ne_eqb (suc (suc (length cs))) 1 (λ e. absurd (omega (arith, e))) in
    and_from _ _ (simple_all (c ∷ cs) h) (rw (dash_no c d, long) refl)

pub decimal_simple : (n : ℕ) → IsWord (decimal n)
decimal_simple n =
    let d = decimal_digits n in
    record {
      first = d.first;
      rest = d.rest;
      same = d.same;
      simple = ap is_simple d.same ∙ digits_simple d.first d.rest d.all;
    }

pub signed_simple : (z : ℤ) → IsWord (signed_decimal z)
signed_simple (pos n) = decimal_simple n
signed_simple (negsuc n) =
    let d = decimal_digits (suc n) in
    record {
      first = 45;
      rest = decimal (suc n);
      same = refl;
      simple = ap (λ l. is_simple (45 ∷ l)) d.same ∙ minus_simple d.first d.rest d.all;
    }
