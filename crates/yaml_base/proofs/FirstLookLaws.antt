-- A text that begins as nothing but a string does is one.
use mathlib.Core.Bool.{true≢false}
use Rattle.std.specs.Prelude.{if◌then◌else◌, Option, None, Some, Bool, true, false, not, ◌==◌, ◌&&◌, ◌||◌}
use Rattle.std.specs.Prelude.{nat_lt, nat_eq, position, codes}
use Rattle.std.specs.Char.{is_ascii_digit, digit_value}
use Rattle.std.specs.List.{list_any}
use Rattle.std.specs.Option.{option_map, option_map_or}
use Rattle.std.proofs.Common.{◌≡◌, ℕ, zero, suc, ◌<◌, ◌≤◌, List, [], ◌∷◌, length, take, drop, refl, sym, ap, ◌∙◌}
use Rattle.std.proofs.Common.{arith, ◌+◌}
use Rattle.std.proofs.lemmas.Bool.Decides.{Decides-eqb, Decides-ltb, nat_tests}
use Rattle.yaml_base.proofs.MantissaLaws.{digit-Decides}
use Rattle.yaml_base.proofs.SignLaws.{unproved}
use Rattle.yaml_base.specs.Floats.{is_decimal_float, is_exponent_mark, is_float, is_infinity_word}
use Rattle.yaml_base.specs.Floats.{is_mantissa, is_nan_word, is_numeral}
use Rattle.yaml_base.specs.Integers.{integer_of, number_in_any_base, unsigned_of}
use Rattle.yaml_base.specs.Kinds.{kind_of, begins_as_string, is_null_text}
use Rattle.yaml_base.specs.PlainWords.{boolean_of}
use Rattle.yaml_base.specs.Signs.{is_minus, sign_of, signed, unsigned, unsigned_part}
use Rattle.yaml_base.specs.declared.resolver.kind.Kind.TheVariants.{Str}

neither : (a b : Bool) → not (a || b) ≡ true → (a ≡ false) × (not b ≡ true)
neither true b e = absurd (true≢false (sym e))
neither false b e = (refl, e)

turned : (a b : ℕ) → (a == b) ≡ false → (b == a) ≡ false
turned a b e = unproved _ _ (Decides-eqb b a) (λ k. true≢false (sym ((Decides-eqb a b).1 (sym k)) ∙ e))

-- what is no digit is none of ten
no_digit : (c : ℕ) → is_ascii_digit c ≡ false → nat_lt (digit_value c) 10 ≡ false
no_digit c e = unproved _ _ (Decides-ltb (digit_value c) 10) (λ l. true≢false (sym ((digit-Decides c).1 (small l)) ∙ e))
  where
    small : digit_value c < 10 → (48 ≤ c) × (c ≤ 57)
    small l = grind (arith, nat_tests, l)

-- no part of the text from its start is a mantissa
no_mantissa : (c : ℕ) (cs : List ℕ) (place : ℕ) → (is_ascii_digit c || c == 46) ≡ false
    → is_mantissa (take place (c ∷ cs)) ≡ false
no_mantissa c cs zero e = refl
no_mantissa c cs (suc n) e = rw e refl

no_decimal : (c : ℕ) (cs : List ℕ) (o : Option ℕ) (numeral : ℕ → Bool) → (is_ascii_digit c || c == 46) ≡ false
    → option_map_or (λ place. is_mantissa (take place (c ∷ cs)) && numeral place) o (is_mantissa (c ∷ cs)) ≡ false
no_decimal c cs None numeral e = rw e refl
no_decimal c cs (Some place) numeral e = rw (no_mantissa c cs place e) refl

unless : (m : Bool) (o : Option ℕ) → o ≡ None → (if m then None else o) ≡ None
unless true o e = refl
unless false o e = e

none_of : (a b d : Bool) → a ≡ false → b ≡ false → d ≡ false → (a || (b || d)) ≡ false
none_of a b d e f g = rw (e, f, g) refl

string : (text : List ℕ) → is_null_text text ≡ false → boolean_of text ≡ None → unsigned_of text ≡ None
    → integer_of text ≡ None → is_float text ≡ false → Str ≡ kind_of text
string text a b u i f = rw (a, b, u, i, f) refl

pub begins-string : (text : List ℕ) → begins_as_string text ≡ true → Str ≡ kind_of text
begins-string [] e = absurd (true≢false (sym e))
begins-string (c ∷ cs) e =
    let digit = neither (is_ascii_digit c) (list_any (nat_eq c) (codes "+-.~nNtTfF")) e in
    let plus = neither (nat_eq c 43) (list_any (nat_eq c) (codes "-.~nNtTfF")) digit.1 in
    let minus = neither (nat_eq c 45) (list_any (nat_eq c) (codes ".~nNtTfF")) plus.1 in
    let point = neither (nat_eq c 46) (list_any (nat_eq c) (codes "~nNtTfF")) minus.1 in
    let tilde = neither (nat_eq c 126) (list_any (nat_eq c) (codes "nNtTfF")) point.1 in
    let n = neither (nat_eq c 110) (list_any (nat_eq c) (codes "NtTfF")) tilde.1 in
    let N = neither (nat_eq c 78) (list_any (nat_eq c) (codes "tTfF")) n.1 in
    let t = neither (nat_eq c 116) (list_any (nat_eq c) (codes "TfF")) N.1 in
    let T = neither (nat_eq c 84) (list_any (nat_eq c) (codes "fF")) t.1 in
    let f = neither (nat_eq c 102) (list_any (nat_eq c) (codes "F")) T.1 in
    let F = neither (nat_eq c 70) (list_any (nat_eq c) []) f.1 in
    let zero : (c == 48) ≡ false = unproved (c == 48) (c ≡ 48) (Decides-eqb c 48)
    (λ k. true≢false (sym (at_zero k) ∙ digit.0)) in
    let no_zero : (48 == c) ≡ false = turned c 48 zero in
    let there : (length (c ∷ cs) == 0) ≡ false =
    unproved _ _ (Decides-eqb (length (c ∷ cs)) 0) (λ k. omega (arith, k)) in
    let present : nat_lt 0 (length (c ∷ cs)) ≡ true = (Decides-ltb 0 (length (c ∷ cs))).1 (omega arith) in
    let null : is_null_text (c ∷ cs) ≡ false = rw (there, n.0, N.0, tilde.0) refl in
    let boolean : boolean_of (c ∷ cs) ≡ None = rw (t.0, T.0, f.0, F.0) refl in
    let sign : sign_of (c ∷ cs) ≡ unsigned = rw (plus.0, minus.0) refl in
    let part : unsigned_part (c ∷ cs) ≡ c ∷ cs = rw sign refl in
    let number : number_in_any_base (c ∷ cs) ≡ None = rw (zero, no_zero, no_digit c digit.0, present) refl in
    let decimal : is_decimal_float (c ∷ cs) ≡ false = no_decimal c cs (position is_exponent_mark (c ∷ cs))
    (λ place. is_numeral (unsigned_part (drop (place + 1) (c ∷ cs)))) (rw (digit.0, point.0) refl) in
    let body : number_in_any_base (unsigned_part (c ∷ cs)) ≡ None = ap number_in_any_base part ∙ number in
    let nan : is_nan_word (c ∷ cs) ≡ false = rw point.0 refl in
    let word : is_infinity_word (c ∷ cs) ≡ false = rw point.0 refl in
    string (c ∷ cs) null boolean (unless (is_minus (sign_of (c ∷ cs))) _ body)
    (ap (option_map (signed (sign_of (c ∷ cs)))) body)
    (none_of _ _ _ nan (ap is_infinity_word part ∙ word) (ap is_decimal_float part ∙ decimal))
  where
    at_zero : c ≡ 48 → is_ascii_digit c ≡ true
    at_zero k = rw k refl
