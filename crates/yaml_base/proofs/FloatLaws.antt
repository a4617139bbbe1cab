-- The tests for float text and for digits behind a zero say what their grammars say.
use mathlib.Core.List.{append-nil}
use Rattle.std.specs.Prelude.{None, Some, Bool, true, false, nat_lt, ◌&&◌, ◌||◌, slice_index}
use Rattle.std.specs.Prelude.{codes}
use Rattle.std.specs.Bool.{Decides}
use Rattle.std.specs.Option.{option_map_or}
use Rattle.std.specs.List.{position_or_len}
use Rattle.std.proofs.Common.{◌≡◌, ◌⊎◌, ℕ, ◌+◌, ◌<◌, ◌≤◌, cond, List, [], ◌∷◌, ◌++◌, length, take, drop}
use Rattle.std.proofs.Common.{get_or, refl, sym, ap, ◌∙◌, arith, inl, inr, length-append}
use Rattle.std.proofs.lemmas.Bool.Decides.{Decides-eqb, Decides-ltb, Decides-and, Decides-or, Decides-like}
use Rattle.std.proofs.lemmas.List.Sums.{split_at_first, passes_at_first}
use Rattle.std.proofs.Math.Seq.{take-append_seam, drop-append-add}
use Rattle.std.proofs.lemmas.Slice.Eq.{bytes_eq-Decides}
use Rattle.yaml_base.proofs.SignLaws.{sign-split, unproved, sign_of-other, behind-sign}
use Rattle.yaml_base.specs.Floats.{AllDecimal, IsExponent, IsDecimalFloat, IsFloatText, HasLeadingZero}
use Rattle.yaml_base.specs.Floats.{is_numeral, is_mantissa, is_exponent_mark, is_decimal_float, is_float}
use Rattle.yaml_base.specs.Floats.{has_leading_zero, is_infinity_word, is_nan_word}
use Rattle.yaml_base.specs.Floats.IsExponent.{absent, present}
use Rattle.yaml_base.specs.Floats.IsFloatText.{decimal, infinity, nan}
use Rattle.yaml_base.specs.Signs.{unsigned, sign_text, sign_of, unsigned_part}
use Rattle.yaml_base.proofs.MantissaLaws.{digit-Decides, all_decimal-Decides, numeral-Decides, itself}
use Rattle.yaml_base.proofs.MantissaLaws.{mantissa-complete, some, mantissa-sound, of_mantissa, in_mantissa}

mark-Decides : (c : ℕ) → Decides (is_exponent_mark c) ((c ≡ 101) ⊎ (c ≡ 69))
mark-Decides c = Decides-or _ _ (Decides-eqb c 101) (Decides-eqb c 69)

-- the exponent behind its mark
exponent_from : (mark : ℕ) (rest : List ℕ) → is_exponent_mark mark ≡ true → is_numeral (unsigned_part rest) ≡ true
    → IsExponent (mark ∷ rest)
exponent_from mark rest m e =
    let n = (numeral-Decides (unsigned_part rest)).0 e in
    present mark (sign_of rest) (unsigned_part rest) (ap (λ l. mark ∷ l) (sign-split rest))
    ((mark-Decides mark).0 m) n.0 n.1

decimal_float-sound : (text : List ℕ) → is_decimal_float text ≡ true → IsDecimalFloat text
decimal_float-sound text e =
    by (nat_lt (position_or_len is_exponent_mark text) (length text))
    (Decides-ltb (position_or_len is_exponent_mark text) (length text)) e
  where
    by : (t : Bool) → Decides t (position_or_len is_exponent_mark text < length text)
        → option_map_or (λ place. is_mantissa (take place text) && is_numeral (unsigned_part (drop (place + 1) text)))
        (cond t (Some (position_or_len is_exponent_mark text)) None) (is_mantissa text) ≡ true
        → IsDecimalFloat text
    by true d h =
        let place = position_or_len is_exponent_mark text in
        let t = (Decides-and _ _ (itself (is_mantissa (take place text)))
        (itself (is_numeral (unsigned_part (drop (place + 1) text))))).0 h in
        record {
          mantissa = take place text;
          exponent = get_or text place 0 ∷ drop (place + 1) text;
          split = split_at_first is_exponent_mark text 0 (d.0 refl);
          is_mantissa = mantissa-sound (take place text) t.0;
          is_exponent = exponent_from _ _ (passes_at_first is_exponent_mark text 0 (d.0 refl)) t.1;
        }
    by false d h = record {
      mantissa = text;
      exponent = [];
      split = sym (append-nil text);
      is_mantissa = mantissa-sound text h;
      is_exponent = absent refl;
    }

-- no mark is among digits and points
abbrev IsFree : List ℕ → Type 0
IsFree [] = Unit {0}
IsFree (c ∷ cs) = (is_exponent_mark c ≡ false) × IsFree cs

free : (text : List ℕ) → in_mantissa text ≡ true → IsFree text
free [] h = tt
free (c ∷ cs) h =
    let t = (Decides-and _ _ (Decides-or _ _ (digit-Decides c) (Decides-eqb c 46)) (itself (in_mantissa cs))).0 h in
    (no (is_exponent_mark c) (mark-Decides c) t.0, free cs t.1)
  where
    no : (t : Bool) → Decides t ((c ≡ 101) ⊎ (c ≡ 69)) → ((48 ≤ c) × (c ≤ 57)) ⊎ (c ≡ 46) → t ≡ false
    no true d k = absurd (grind (arith, d.0 refl, k))
    no false d k = refl

place_of-mark : (m : List ℕ) (mark : ℕ) (rest : List ℕ) → IsFree m → is_exponent_mark mark ≡ true
    → position_or_len is_exponent_mark (m ++ mark ∷ rest) ≡ length m
place_of-mark [] mark rest f h = rw h refl
place_of-mark (c ∷ cs) mark rest f h = rw (f.0, place_of-mark cs mark rest f.1 h) (omega arith)

place_of-none : (m : List ℕ) → IsFree m → position_or_len is_exponent_mark m ≡ length m
place_of-none [] f = refl
place_of-none (c ∷ cs) f = rw (f.0, place_of-none cs f.1) (omega arith)

-- a mantissa alone, and one with digits behind a mark
alone : (m : List ℕ) → is_mantissa m ≡ true → is_decimal_float m ≡ true
alone m e =
    let f = free m (of_mantissa m e).0 in
    rw (place_of-none m f, unproved _ _ (Decides-ltb (length m) (length m)) (λ l. omega (arith, l))) e

marked : (m : List ℕ) (mark : ℕ) (rest : List ℕ) → is_mantissa m ≡ true → is_exponent_mark mark ≡ true
    → is_numeral (unsigned_part rest) ≡ true → is_decimal_float (m ++ mark ∷ rest) ≡ true
marked m mark rest e h n =
    let place = place_of-mark m mark rest (free m (of_mantissa m e).0) h in
    let before = take-append_seam m (mark ∷ rest) in
    let after : drop (length m + 1) (m ++ mark ∷ rest) ≡ rest = drop-append-add m (mark ∷ rest) 1 in
    let long : nat_lt (length m) (length (m ++ mark ∷ rest)) ≡ true =
    (Decides-ltb (length m) (length (m ++ mark ∷ rest))).1 (omega (arith, length-append m (mark ∷ rest))) in
    rw (place, long, before, after, e, n) refl

digits-unsigned : (ds : List ℕ) → AllDecimal ds → sign_of ds ≡ unsigned
digits-unsigned [] a = refl
digits-unsigned (c ∷ cs) a = sign_of-other c cs (λ e. omega (arith, e, a.0.0)) (λ e. omega (arith, e, a.0.0))

decimal_float-complete : (text : List ℕ) → IsDecimalFloat text → is_decimal_float text ≡ true
decimal_float-complete text f = elim f.is_exponent [
  | absent e ↦
      let same : text ≡ f.mantissa = f.split ∙ rw e (append-nil f.mantissa) in
      rw same (alone f.mantissa (mantissa-complete f.mantissa f.is_mantissa))
  | present mark sign digits e letter p a ↦
      let n : is_numeral (unsigned_part (sign_text sign ++ digits)) ≡ true =
      rw (behind-sign sign digits (digits-unsigned digits a)).1 ((numeral-Decides digits).1 (p, a)) in
      let same : text ≡ f.mantissa ++ mark ∷ (sign_text sign ++ digits) = f.split ∙ ap (λ l. f.mantissa ++ l) e in
      rw same (marked f.mantissa mark (sign_text sign ++ digits) (mantissa-complete f.mantissa f.is_mantissa)
      ((mark-Decides mark).1 letter) n)
]

-- a decimal float begins with no sign
decimal_float-unsigned : (text : List ℕ) → IsDecimalFloat text → sign_of text ≡ unsigned
decimal_float-unsigned text f =
    let t = of_mantissa f.mantissa (mantissa-complete f.mantissa f.is_mantissa) in
    rw f.split (head f.mantissa f.exponent t.0 (some f.mantissa t.1))
  where
    head : (m rest : List ℕ) → in_mantissa m ≡ true → 0 < length m → sign_of (m ++ rest) ≡ unsigned
    head [] rest h p = absurd (omega (arith, p))
    head (c ∷ cs) rest h p =
        let t = (Decides-and _ _ (Decides-or _ _ (digit-Decides c) (Decides-eqb c 46)) (itself (in_mantissa cs))).0 h in
        sign_of-other c (cs ++ rest) (λ e. grind (arith, e, t.0)) (λ e. grind (arith, e, t.0))

infinity-unsigned : (text : List ℕ) → is_infinity_word text ≡ true → sign_of text ≡ unsigned
infinity-unsigned text h =
    let d = Decides-or _ _ (bytes_eq-Decides text (codes ".inf"))
    (Decides-or _ _ (bytes_eq-Decides text (codes ".Inf")) (bytes_eq-Decides text (codes ".INF"))) in
    elim (d.0 h) [
      | inl e ↦ rw e refl
      | inr k ↦ elim k [ inl e ↦ rw e refl | inr e ↦ rw e refl ]
    ]

or_true : (a b : Bool) → b ≡ true → a || b ≡ true
or_true true b e = refl
or_true false b e = e

pub is_float-Decides : (text : List ℕ) → Decides (is_float text) (IsFloatText text)
is_float-Decides text = (sound, complete)
  where
    sound : is_float text ≡ true → IsFloatText text
    sound e =
        let d = Decides-or _ _ (itself (is_nan_word text))
        (Decides-or _ _ (itself (is_infinity_word (unsigned_part text)))
        (itself (is_decimal_float (unsigned_part text)))) in
        elim (d.0 e) [
          | inl w ↦ nan w
          | inr k ↦ elim k [
            | inl w ↦ infinity (sign_of text) (unsigned_part text) (sign-split text) w
            | inr d ↦
                decimal (sign_of text) (unsigned_part text) (sign-split text)
                (decimal_float-sound (unsigned_part text) d)
          ]
        ]

    complete : IsFloatText text → is_float text ≡ true
    complete (nan w) = rw w refl
    complete (infinity s body e w) =
        let u : unsigned_part text ≡ body = rw e (behind-sign s body (infinity-unsigned body w)).1 in
        let i : is_infinity_word (unsigned_part text) ≡ true = rw u w in
        or_true (is_nan_word text) (is_infinity_word (unsigned_part text) || is_decimal_float (unsigned_part text))
        (rw i refl)
    complete (decimal s body e f) =
        let u : unsigned_part text ≡ body = rw e (behind-sign s body (decimal_float-unsigned body f)).1 in
        let d : is_decimal_float (unsigned_part text) ≡ true = rw u (decimal_float-complete body f) in
        or_true (is_nan_word text) (is_infinity_word (unsigned_part text) || is_decimal_float (unsigned_part text))
        (or_true (is_infinity_word (unsigned_part text)) (is_decimal_float (unsigned_part text)) d)

pub leading_zero-Decides : (text : List ℕ) → Decides (has_leading_zero text) (HasLeadingZero text)
leading_zero-Decides text = Decides-like _ from back
    (Decides-and _ _ (Decides-ltb 1 (length (unsigned_part text)))
    (Decides-and _ _ (Decides-eqb (slice_index (unsigned_part text) 0) 48)
    (all_decimal-Decides (unsigned_part text))))
  where
    from : (1 < length (unsigned_part text))
        × ((slice_index (unsigned_part text) 0 ≡ 48) × AllDecimal (unsigned_part text))
        → HasLeadingZero text
    from h = record {
      sign = sign_of text;
      digits = unsigned_part text;
      spelled = sign-split text;
      several = h.0;
      all_digits = h.1.1;
      zero = h.1.0;
    }

    back : HasLeadingZero text
        → (1 < length (unsigned_part text))
        × ((slice_index (unsigned_part text) 0 ≡ 48) × AllDecimal (unsigned_part text))
    back z =
        let u : unsigned_part text ≡ z.digits =
        rw z.spelled (behind-sign z.sign z.digits (digits-unsigned z.digits z.all_digits)).1 in
        rw u (z.several, (z.zero, z.all_digits))
