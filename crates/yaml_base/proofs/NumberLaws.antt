-- The number that is computed of a text without a sign is the one that its grammar gives.
use mathlib.Core.Bool.{true≢false}
use Rattle.std.specs.Prelude.{Option, None, Some, Bool, true, false, not, nat_lt, ◌==◌, ◌&&◌, if◌then◌else◌}
use Rattle.std.specs.Prelude.{slice_index}
use Rattle.std.specs.Bool.{Decides}
use Rattle.std.specs.Char.{digit_value}
use Rattle.std.specs.Option.{option_or}
use Rattle.std.specs.Str.Parse.{AllDigits}
use Rattle.std.proofs.Common.{◌≡◌, ◌⊎◌, ℕ, ◌<◌, ◌≤◌, List, [], ◌∷◌, ◌++◌, length, drop, refl, sym, ap}
use Rattle.std.proofs.Common.{◌∙◌, arith, subst, inl, inr}
use Rattle.std.proofs.lemmas.Bool.Decides.{Decides-eqb, Decides-ltb, Decides-and}
use Rattle.std.proofs.lemmas.Option.{same_Some, none-some}
use Rattle.std.proofs.lemmas.Slice.Eq.{starts_is}
use Rattle.yaml_base.proofs.SignLaws.{unproved, sign_of-other, behind-sign}
use Rattle.yaml_base.proofs.DigitLaws.{numeral-Decides}
use Rattle.yaml_base.specs.Integers.{Base, decimal, hexadecimal, octal, binary, radix, prefix_of, place_value}
use Rattle.yaml_base.specs.Integers.{HasLeadingZeroAlone, IsNumber}
use Rattle.yaml_base.specs.Integers.{digits_number, has_zero_in_front, number_in_any_base, number_in_base}
use Rattle.yaml_base.specs.Signs.{Sign, unsigned, sign_text, sign_of, unsigned_part}

-- what a test lets through was there
guarded : {A : Type 0} (t : Bool) (o : Option A) (x : A) → (if t then o else None) ≡ Some x → (t ≡ true) × (o ≡ Some x)
guarded true o x e = (refl, e)
guarded false o x e = absurd (none-some x e)

both : (a b : Bool) → a && b ≡ true → (a ≡ true) × (b ≡ true)
both true b e = (refl, e)
both false b e = absurd (true≢false (sym e))

digits_number-some : (base : ℕ) (ds : List ℕ) → 0 < length ds → AllDigits base ds
    → digits_number base ds ≡ Some (place_value base ds)
digits_number-some base ds p a = rw ((numeral-Decides base ds).1 (p, a)) refl

-- a leading zero
zero-Decides : (ds : List ℕ)
    → Decides (slice_index ds 0 == 48 && nat_lt 1 (length ds)) ((slice_index ds 0 ≡ 48) × (1 < length ds))
zero-Decides ds = Decides-and _ _ (Decides-eqb (slice_index ds 0) 48) (Decides-ltb 1 (length ds))

-- text in a base writes its number
spelled_in : (base : Base) (ds : List ℕ) → 0 < length ds → AllDigits (radix base) ds → HasLeadingZeroAlone base ds
    → number_in_base base (prefix_of base ++ ds) ≡ Some (place_value (radix base) ds)
spelled_in decimal ds p a z =
    let none = unproved _ _ (zero-Decides ds) (λ h. omega (arith, z h.0, h.1)) in rw none (digits_number-some 10 ds p a)
spelled_in hexadecimal ds p a z = digits_number-some 16 ds p a
spelled_in octal ds p a z = digits_number-some 8 ds p a
spelled_in binary ds p a z = digits_number-some 2 ds p a

pub number_in_base-complete : (base : Base) (text : List ℕ) (n : ℕ) → IsNumber base text n
    → number_in_base base text ≡ Some n
number_in_base-complete base text n i =
    rw (i.spelled, i.value) (spelled_in base i.digits i.present i.all_digits i.zero_alone)

alone : (base : Base) (text : List ℕ) → not (has_zero_in_front base text) ≡ true
    → 0 < length (drop (length (prefix_of base)) text)
    → HasLeadingZeroAlone base (drop (length (prefix_of base)) text)
alone decimal text e p = λ zero. omega (arith, p, single text e zero)
  where
    single : (text : List ℕ) → not (has_zero_in_front decimal text) ≡ true → slice_index text 0 ≡ 48
        → ¬ (1 < length text)
    single text e zero long = let t = (zero-Decides text).1 (zero, long) in true≢false (sym e ∙ ap not t)
alone hexadecimal text e p = tt
alone octal text e p = tt
alone binary text e p = tt

pub number_in_base-sound : (base : Base) (text : List ℕ) (n : ℕ) → number_in_base base text ≡ Some n
    → IsNumber base text n
number_in_base-sound base text n e =
    let g = guarded _ _ n e in
    let t = both _ _ g.0 in
    let h = guarded _ _ n g.1 in
    let d = (numeral-Decides (radix base) (drop (length (prefix_of base)) text)).0 h.0 in
    record {
      digits = drop (length (prefix_of base)) text;
      spelled = (starts_is Decides-eqb text (prefix_of base) _ refl).0 t.0;
      present = d.0;
      all_digits = d.1;
      zero_alone = alone base text t.1 d.0;
      value = sym (same_Some _ _ h.1);
    }

-- decimal digits begin with no prefix
no_prefix : (base : Base) (x : ℕ) (text : List ℕ) → prefix_of base ≡ 48 ∷ x ∷ [] → 10 ≤ digit_value x
    → AllDigits 10 text → number_in_base base text ≡ None
no_prefix base x text p big a = refused _ _ _ (λ t. begun _ ((starts_is Decides-eqb text (prefix_of base) _ refl).0 t))
  where
    begun : (rest : List ℕ) → text ≡ prefix_of base ++ rest → ⊥
    begun rest e = let all = rw (e, p) at a in omega (arith, all.1.0, big)

    refused : (t u : Bool) (o : Option ℕ) → (t ≡ true → ⊥) → (if t && u then o else None) ≡ None
    refused true u o n = absurd (n refl)
    refused false u o n = refl

pub number_in_any_base-complete : (base : Base) (text : List ℕ) (n : ℕ) → IsNumber base text n
    → number_in_any_base text ≡ Some n
number_in_any_base-complete hexadecimal text n i = let e = number_in_base-complete hexadecimal text n i in rw e refl
number_in_any_base-complete octal text n i =
    let x : number_in_base hexadecimal text ≡ None = rw i.spelled refl in
    let e = number_in_base-complete octal text n i in rw (x, e) refl
number_in_any_base-complete binary text n i =
    let x : number_in_base hexadecimal text ≡ None = rw i.spelled refl in
    let o : number_in_base octal text ≡ None = rw i.spelled refl in
    let e = number_in_base-complete binary text n i in rw (x, o, e) refl
number_in_any_base-complete decimal text n i =
    let a : AllDigits 10 text = subst (AllDigits 10) (sym i.spelled) i.all_digits in
    let x = no_prefix hexadecimal 120 text refl (omega arith) a in
    let o = no_prefix octal 111 text refl (omega arith) a in
    let b = no_prefix binary 98 text refl (omega arith) a in
    let e = number_in_base-complete decimal text n i in rw (x, o, b, e) refl

either : (o p : Option ℕ) (n : ℕ) → option_or o p ≡ Some n → (o ≡ Some n) ⊎ (p ≡ Some n)
either None p n e = inr e
either (Some x) p n e = inl e

pub number_in_any_base-sound : (text : List ℕ) (n : ℕ) → number_in_any_base text ≡ Some n
    → (base : Base) × IsNumber base text n
number_in_any_base-sound text n e = elim (either _ _ n e) [
  | inl h ↦ (hexadecimal, number_in_base-sound _ _ _ h)
  | inr r ↦ elim (either _ _ n r) [
    | inl h ↦ (octal, number_in_base-sound _ _ _ h)
    | inr s ↦ elim (either _ _ n s) [
      | inl h ↦ (binary, number_in_base-sound _ _ _ h)
      | inr h ↦ (decimal, number_in_base-sound _ _ _ h)
    ]
  ]
]

-- a number begins with no sign
digit_unsigned : (c : ℕ) (cs : List ℕ) → digit_value c < 10 → sign_of (c ∷ cs) ≡ unsigned
digit_unsigned c cs d = sign_of-other c cs
    (λ e. let h : digit_value c ≡ 36 = ap digit_value e in omega (arith, d, h))
    (λ e. let h : digit_value c ≡ 36 = ap digit_value e in omega (arith, d, h))

number-unsigned : (base : Base) (text : List ℕ) (n : ℕ) → IsNumber base text n → sign_of text ≡ unsigned
number-unsigned decimal text n i = rw i.spelled (digits_unsigned i.digits i.present i.all_digits)
  where
    digits_unsigned : (ds : List ℕ) → 0 < length ds → AllDigits 10 ds → sign_of ds ≡ unsigned
    digits_unsigned [] p a = absurd (omega (arith, p))
    digits_unsigned (c ∷ cs) p a = digit_unsigned c cs a.0
number-unsigned hexadecimal text n i = rw i.spelled refl
number-unsigned octal text n i = rw i.spelled refl
number-unsigned binary text n i = rw i.spelled refl

-- a number behind a sign has that sign
pub signed-number : (s : Sign) (base : Base) (body : List ℕ) (n : ℕ) → IsNumber base body n
    → (sign_of (sign_text s ++ body) ≡ s) × (unsigned_part (sign_text s ++ body) ≡ body)
signed-number s base body n i = behind-sign s body (number-unsigned base body n i)
