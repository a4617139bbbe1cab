-- The test for a mantissa says what its grammar says.
use mathlib.Core.Bool.{true≢false}
use Rattle.std.specs.Prelude.{Bool, true, false, ◌==◌, ◌||◌}
use Rattle.std.specs.Prelude.{count_by}
use Rattle.std.specs.Bool.{Decides}
use Rattle.std.specs.Char.{is_ascii_digit}
use Rattle.std.specs.List.{list_all, list_any}
use Rattle.std.proofs.Common.{◌≡◌, ◌⊎◌, ℕ, zero, suc, ◌+◌, ◌<◌, ◌≤◌, cond, List, [], ◌∷◌, ◌++◌, length}
use Rattle.std.proofs.Common.{refl, sym, ap, ◌∙◌, arith, inl, inr}
use Rattle.std.proofs.lemmas.Bool.Decides.{Decides-eqb, Decides-ltb, Decides-and, Decides-or}
use Rattle.std.proofs.lemmas.List.Folds.{list_all-append, list_any-append}
use Rattle.std.proofs.lemmas.List.Sums.{sum_by-cons, sum_by-append}
use Rattle.yaml_base.proofs.RangeLaws.{le-Decides}
use Rattle.yaml_base.specs.Floats.{AllDecimal, IsMantissa}
use Rattle.yaml_base.specs.Floats.{is_numeral, is_mantissa}
use Rattle.yaml_base.specs.Floats.IsMantissa.{whole, pointed}

pub digit-Decides : (c : ℕ) → Decides (is_ascii_digit c) ((48 ≤ c) × (c ≤ 57))
digit-Decides c = Decides-and _ _ (le-Decides 48 c) (le-Decides c 57)

pub all_decimal-Decides : (ds : List ℕ) → Decides (list_all is_ascii_digit ds) (AllDecimal ds)
all_decimal-Decides [] = ((λ e. tt), (λ h. refl))
all_decimal-Decides (c ∷ cs) = Decides-and _ _ (digit-Decides c) (all_decimal-Decides cs)

pub numeral-Decides : (ds : List ℕ) → Decides (is_numeral ds) ((0 < length ds) × AllDecimal ds)
numeral-Decides ds = Decides-and _ _ (Decides-ltb 0 (length ds)) (all_decimal-Decides ds)

-- a test decides whether it is true
pub itself : (t : Bool) → Decides t (t ≡ true)
itself t = ((λ e. e), (λ e. e))

abbrev pub points : List ℕ → ℕ
points text = count_by (λ c. c == 46) text

points-cons : (c : ℕ) (cs : List ℕ) → points (c ∷ cs) ≡ cond (c == 46) 1 0 + points cs
points-cons c cs = sum_by-cons (λ x. cond (x == 46) 1 0) c cs

abbrev pub in_mantissa : List ℕ → Bool
in_mantissa text = list_all (λ c. is_ascii_digit c || c == 46) text

-- digits round a point
abbrev pub IsPointed : List ℕ → Type 0
IsPointed text =
    (before : List ℕ) × (after : List ℕ) × (text ≡ before ++ 46 ∷ after) × AllDecimal before × AllDecimal after

-- text of digits and points, by the number of its points
parts : (text : List ℕ) → in_mantissa text ≡ true
    → (points text ≡ 0 → AllDecimal text) × (points text ≡ 1 → IsPointed text)
parts [] h = ((λ e. tt), (λ e. absurd (omega (arith, e))))
parts (c ∷ cs) h =
    let t = (Decides-and _ _ (Decides-or _ _ (digit-Decides c) (Decides-eqb c 46)) (itself (in_mantissa cs))).0 h in
    by (is_ascii_digit c) (c == 46) (digit-Decides c) (Decides-eqb c 46) (points-cons c cs) (parts cs t.1) t.0
  where
    by : (d p : Bool) → Decides d ((48 ≤ c) × (c ≤ 57)) → Decides p (c ≡ 46) → points (c ∷ cs) ≡ cond p 1 0 + points cs
        → (points cs ≡ 0 → AllDecimal cs) × (points cs ≡ 1 → IsPointed cs) → ((48 ≤ c) × (c ≤ 57)) ⊎ (c ≡ 46)
        → (points (c ∷ cs) ≡ 0 → AllDecimal (c ∷ cs)) × (points (c ∷ cs) ≡ 1 → IsPointed (c ∷ cs))
    by d true e q n more k = (
      (λ z. absurd (omega (arith, z, n))),
      (λ o. ([], cs, ap (λ x. x ∷ cs) (q.0 refl), tt, more.0 (omega (arith, o, n)))),
    )
    by d false e q n more (inr k) = absurd (true≢false (sym (q.1 k)))
    by d false e q n more (inl k) = (
      (λ z. (k, more.0 (omega (arith, z, n)))),
      (λ o. let s = more.1 (omega (arith, o, n)) in (c ∷ s.0, s.1, ap (λ x. c ∷ x) s.2, (k, s.3), s.4)),
    )

-- decimal digits hold no point, and are part of a mantissa
pointless : (ds : List ℕ) → AllDecimal ds → (in_mantissa ds ≡ true) × (points ds ≡ 0)
pointless [] a = (refl, refl)
pointless (c ∷ cs) a =
    let more = pointless cs a.1 in
    let digit : is_ascii_digit c ≡ true = (digit-Decides c).1 a.0 in
    let point : (c == 46) ≡ false = no (c == 46) (Decides-eqb c 46) (λ e. omega (arith, e, a.0.0)) in
    (rw (digit, more.0) refl, points-cons c cs ∙ rw (point, more.1) refl)
  where
    no : (t : Bool) → Decides t (c ≡ 46) → ¬ (c ≡ 46) → t ≡ false
    no true d n = absurd (n (d.0 refl))
    no false d n = refl

-- among decimal digits there is one where there is any
some_digit : (ds : List ℕ) → AllDecimal ds → 0 < length ds → list_any is_ascii_digit ds ≡ true
some_digit [] a p = absurd (omega (arith, p))
some_digit (c ∷ cs) a p = rw ((digit-Decides c).1 a.0) refl

pub mantissa-complete : (text : List ℕ) → IsMantissa text → is_mantissa text ≡ true
mantissa-complete text (whole p a) =
    let m = pointless text a in rw (m.0, m.1, some_digit text a p) refl
mantissa-complete text (pointed before after e a b p) =
    let m = pointless before a in
    let k = pointless after b in
    let all : in_mantissa (before ++ 46 ∷ after) ≡ true =
    list_all-append (λ c. is_ascii_digit c || c == 46) before (46 ∷ after) ∙ rw (m.0, k.0) refl in
    let one : points (before ++ 46 ∷ after) ≡ 1 =
    sum_by-append (λ c. cond (c == 46) 1 0) before (46 ∷ after) ∙ rw (m.1, points-cons 46 after, k.1) refl in
    let digit : list_any is_ascii_digit (before ++ 46 ∷ after) ≡ true =
    list_any-append is_ascii_digit before (46 ∷ after) ∙ digit_round before after a b p in
    rw (e, all, one, digit) refl
  where
    digit_round : (before after : List ℕ) → AllDecimal before → AllDecimal after → 0 < length before + length after
        → (list_any is_ascii_digit before || list_any is_ascii_digit (46 ∷ after)) ≡ true
    digit_round [] after a b p = some_digit after b (omega (arith, p))
    digit_round (c ∷ cs) after a b p = rw (some_digit (c ∷ cs) a (omega arith)) refl

pub some : (text : List ℕ) → list_any is_ascii_digit text ≡ true → 0 < length text
some [] e = absurd (true≢false (sym e))
some (c ∷ cs) e = omega arith

pub mantissa-sound : (text : List ℕ) → is_mantissa text ≡ true → IsMantissa text
mantissa-sound text e =
    let t = (Decides-and _ _ (itself (in_mantissa text))
    (Decides-and _ _ (le-Decides (points text) 1) (itself (list_any is_ascii_digit text)))).0 e in
    let m = parts text t.0 in
    by (points text) t.1.0 m t.1.1
  where
    round : (text before after : List ℕ) → text ≡ before ++ 46 ∷ after → list_any is_ascii_digit text ≡ true
        → 0 < length before + length after
    round text [] [] e d = absurd (true≢false (sym (rw e at d)))
    round text [] (x ∷ xs) e d = omega arith
    round text (x ∷ xs) after e d = omega arith

    by : (n : ℕ) → n ≤ 1 → (n ≡ 0 → AllDecimal text) × (n ≡ 1 → IsPointed text) → list_any is_ascii_digit text ≡ true
        → IsMantissa text
    by zero l m digit = whole (some text digit) (m.0 refl)
    by (suc n) l m digit =
        let s = m.1 (omega (arith, l)) in pointed s.0 s.1 s.2 s.3 s.4 (round text s.0 s.1 s.2 digit)

-- digits and points, with a digit among them
pub of_mantissa : (m : List ℕ) → is_mantissa m ≡ true → (in_mantissa m ≡ true) × (list_any is_ascii_digit m ≡ true)
of_mantissa m e =
    let t = (Decides-and _ _ (itself (in_mantissa m))
    (Decides-and _ _ (le-Decides (points m) 1) (itself (list_any is_ascii_digit m)))).0 e in
    (t.0, t.1.1)
