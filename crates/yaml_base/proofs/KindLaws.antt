-- Each text has one kind.
use mathlib.Core.Bool.{true≢false}
use Rattle.std.specs.Prelude.{Option, None, Some, Bool, true, false, IsTrue, not, ◌&&◌}
use Rattle.std.specs.Prelude.{if◌then◌else◌, ℤ, pos, neg_ℤ, ◌≤ℤ◌}
use Rattle.std.specs.Bool.{Decides}
use Rattle.std.specs.Option.{option_map_or}
use Rattle.std.proofs.Common.{◌≡◌, ◌≢◌, ℕ, ◌-◌, ◌^◌, ◌≤◌, List, refl, sym, ap, ◌∙◌}
use Rattle.std.proofs.Common.{arith, subst}
use Rattle.std.proofs.lemmas.Bool.Decides.{Decides-and, Decides-not}
use Rattle.std.proofs.lemmas.Int.{ints}
use Rattle.std.proofs.lemmas.Option.{none-some}
use Rattle.yaml_base.proofs.FloatLaws.{is_float-Decides, leading_zero-Decides}
use Rattle.yaml_base.proofs.IntegerLaws.{integer_of-signed, integer_of-sound, integer_of-complete, positive}
use Rattle.yaml_base.proofs.IntegerLaws.{mapped, a_minus, unsigned_of-sound, unsigned_of-complete}
use Rattle.yaml_base.proofs.RangeLaws.{in_range-inside, in_range-found, in_range-within, up_to-found, up_to-below}
use Rattle.yaml_base.proofs.RangeLaws.{up_to-inside}
use Rattle.yaml_base.proofs.SignLaws.{unproved}
use Rattle.yaml_base.specs.Floats.{IsFloatText, HasLeadingZero, is_float, has_leading_zero}
use Rattle.yaml_base.specs.Integers.{Base, IsInteger, IsIntegerText, integer_of, unsigned_of, in_range}
use Rattle.yaml_base.specs.Integers.{up_to}
use Rattle.yaml_base.specs.Kinds.{is_null_text, IsOther, HasKind, kind_of}
use Rattle.yaml_base.specs.PlainWords.{boolean_of}
use Rattle.yaml_base.specs.Signs.{minus, signed, is_minus, sign_of}
use Rattle.yaml_base.specs.declared.resolver.kind.Kind.{Kind}
use Rattle.yaml_base.specs.declared.resolver.kind.Kind.TheVariants.{Null, Bool as Boolean, Unsigned, Signed, Float, Str}
use Rattle.yaml_base.proofs.WordLaws.{null_boolean, null_integer, null_unsigned, boolean_integer, boolean_unsigned}

-- floats that are no digits behind a zero
float-Decides : (text : List ℕ)
    → Decides (is_float text && not (has_leading_zero text)) (IsFloatText text × ¬ (HasLeadingZero text))
float-Decides text =
    Decides-and _ _ (is_float-Decides text) (Decides-not (has_leading_zero text) (leading_zero-Decides text))

has_float : (text : List ℕ) → IsOther text → (t : Bool) → Decides t (IsFloatText text × ¬ (HasLeadingZero text))
    → HasKind text (if t then Float else Str)
has_float text o true d = (o, d.0 refl)
has_float text o false d = (o, λ h. true≢false (sym (d.1 h)))

-- the numbers that fit
abbrev number_kind : List ℕ → Option ℕ
number_kind text = up_to (2 ^ 128 - 1) (unsigned_of text)

abbrev integer_kind : List ℕ → Option ℤ
integer_kind text = in_range (neg_ℤ (pos (2 ^ 127))) (pos (2 ^ 127 - 1)) (integer_of text)

-- an integer without a minus is a number
unsigned_of-integer : (text : List ℕ) (z : ℤ) → integer_of text ≡ Some z → is_minus (sign_of text) ≡ false
    → (n : ℕ) × (unsigned_of text ≡ Some n) × (z ≡ pos n)
unsigned_of-integer text z e f =
    let k = mapped (sign_of text) _ z e in (k.0, rw f k.1, k.2 ∙ sym (positive (sign_of text) k.0 f))

small_number : (text : List ℕ) (n : ℕ) → number_kind text ≡ None → unsigned_of text ≡ Some n → n ≤ 2 ^ 128 - 1 → ⊥
small_number text n e u l = none-some n (sym e ∙ rw u (up_to-inside (2 ^ 128 - 1) n l))

-- an integer that is no number without a minus has a minus
is_signed : (text : List ℕ) (z : ℤ) → number_kind text ≡ None → integer_kind text ≡ Some z
    → ((base : Base) × IsInteger minus base text z) × (neg_ℤ (pos (2 ^ 127)) ≤ℤ z)
is_signed text z n i = by (is_minus (sign_of text)) refl
  where
    by : (t : Bool) → is_minus (sign_of text) ≡ t
        → ((base : Base) × IsInteger minus base text z) × (neg_ℤ (pos (2 ^ 127)) ≤ℤ z)
    by true m =
        let w = in_range-within (neg_ℤ (pos (2 ^ 127))) (pos (2 ^ 127 - 1)) (integer_of text) z i in
        let s = integer_of-signed text z
        (in_range-found (neg_ℤ (pos (2 ^ 127))) (pos (2 ^ 127 - 1)) (integer_of text) z i) in
        ((s.0, subst (λ s'. IsInteger s' s.0 text z) (a_minus _ m) s.1), w.0)
    by false m =
        let w = in_range-within (neg_ℤ (pos (2 ^ 127))) (pos (2 ^ 127 - 1)) (integer_of text) z i in
        let u = unsigned_of-integer text z
        (in_range-found (neg_ℤ (pos (2 ^ 127))) (pos (2 ^ 127 - 1)) (integer_of text) z i) m in
        absurd (small_number text u.0 n u.1 (omega (arith, ints, w.1, u.2)))

-- no integer
no_integer : (text : List ℕ) → number_kind text ≡ None → integer_kind text ≡ None → (z : ℤ) → neg_ℤ (pos (2 ^ 127)) ≤ℤ z
    → z ≤ℤ pos (2 ^ 128 - 1) → ¬ (IsIntegerText text z)
no_integer text n i z low high h = by (is_minus (sign_of text)) refl
  where
    by : (t : Bool) → is_minus (sign_of text) ≡ t → ⊥
    by true m =
        let e = integer_of-complete text z h in
        let k = mapped (sign_of text) _ z e in
        let v : z ≡ neg_ℤ (pos k.0) = k.2 ∙ ap (λ s. signed s k.0) (a_minus (sign_of text) m) in
        let inside = in_range-inside (neg_ℤ (pos (2 ^ 127))) (pos (2 ^ 127 - 1)) z low (omega (arith, ints, v)) in
        none-some z (sym i ∙ rw e inside)
    by false m =
        let u = unsigned_of-integer text z (integer_of-complete text z h) m in
        small_number text u.0 n u.1 (omega (arith, ints, high, u.2))

has_number : (text : List ℕ) → is_null_text text ≡ false → boolean_of text ≡ None → (o : Option ℕ) (p : Option ℤ)
    → number_kind text ≡ o → integer_kind text ≡ p
    → HasKind text (option_map_or (λ n. Unsigned n) o (option_map_or (λ z. Signed z) p
    (if is_float text && not (has_leading_zero text) then Float else Str)))
has_number text null boolean (Some n) p e f =
    let l = up_to-below _ (unsigned_of text) n e in
    (unsigned_of-sound text n (up_to-found _ (unsigned_of text) n e), omega (arith, l))
has_number text null boolean None (Some z) e f = is_signed text z e f
has_number text null boolean None None e f =
    has_float text (record {
      no_null = λ t. true≢false (sym t ∙ null);
      no_boolean = λ value k. none-some value (sym boolean ∙ k);
      no_integer = no_integer text e f;
    }) _ (float-Decides text)

has_word : (text : List ℕ) → is_null_text text ≡ false → (o : Option Bool) → boolean_of text ≡ o
    → HasKind text (option_map_or (λ value. Boolean value) o
    (option_map_or (λ n. Unsigned n) (number_kind text) (option_map_or (λ z. Signed z) (integer_kind text)
    (if is_float text && not (has_leading_zero text) then Float else Str))))
has_word text null (Some value) e = e
has_word text null None e = has_number text null e _ _ refl refl

pub kind_of-has : (text : List ℕ) → HasKind text (kind_of text)
kind_of-has text = by (is_null_text text) refl
  where
    by : (t : Bool) → is_null_text text ≡ t
        → HasKind text (if t then Null else option_map_or (λ value. Boolean value) (boolean_of text)
        (option_map_or (λ n. Unsigned n) (number_kind text) (option_map_or (λ z. Signed z) (integer_kind text)
        (if is_float text && not (has_leading_zero text) then Float else Str))))
    by true e = e
    by false e = has_word text e _ refl

-- a kind that a text has is the one computed
not_null : (text : List ℕ) → ¬ (IsTrue (is_null_text text)) → is_null_text text ≡ false
not_null text h = unproved (is_null_text text) (IsTrue (is_null_text text)) ((λ e. e), (λ e. e)) h

no_boolean : (text : List ℕ) → ((value : Bool) → boolean_of text ≢ Some value) → boolean_of text ≡ None
no_boolean text h = by (boolean_of text) refl
  where
    by : (b : Option Bool) → boolean_of text ≡ b → b ≡ None
    by None e = refl
    by (Some value) e = absurd (h value e)

other_boolean : (text : List ℕ) → IsOther text → boolean_of text ≡ None
other_boolean text o = no_boolean text o.no_boolean

other_number : (text : List ℕ) → IsOther text → number_kind text ≡ None
other_number text o = by (number_kind text) refl
  where
    by : (k : Option ℕ) → number_kind text ≡ k → k ≡ None
    by None e = refl
    by (Some n) e =
        let l = up_to-below (2 ^ 128 - 1) (unsigned_of text) n e in
        let u = unsigned_of-sound text n (up_to-found (2 ^ 128 - 1) (unsigned_of text) n e) in
        absurd (o.no_integer (pos n) (omega (arith, ints)) (omega (arith, ints, l)) (u.0, u.1, u.3))

other_integer : (text : List ℕ) → IsOther text → integer_kind text ≡ None
other_integer text o = by (integer_kind text) refl
  where
    by : (k : Option ℤ) → integer_kind text ≡ k → k ≡ None
    by None e = refl
    by (Some z) e =
        let w = in_range-within (neg_ℤ (pos (2 ^ 127))) (pos (2 ^ 127 - 1)) (integer_of text) z e in
        let h = integer_of-sound text z
        (in_range-found (neg_ℤ (pos (2 ^ 127))) (pos (2 ^ 127 - 1)) (integer_of text) z e) in
        absurd (o.no_integer z w.0 (omega (arith, ints, w.1)) h)

pub kind_of-only : (text : List ℕ) (kind : Kind) → HasKind text kind → kind ≡ kind_of text
kind_of-only text Null h = rw h refl
kind_of-only text (Boolean value) h =
    let n = not_null text (λ e. none-some value (sym (null_boolean text e) ∙ h)) in rw (n, h) refl
kind_of-only text (Unsigned n) h =
    let u = unsigned_of-complete text n h.0 in
    let null = not_null text (λ e. none-some n (sym (null_unsigned text e) ∙ u)) in
    let boolean = no_boolean text (λ value e. none-some n (sym (boolean_unsigned text value e) ∙ u)) in
    let number : number_kind text ≡ Some n = rw u (up_to-inside (2 ^ 128 - 1) n (omega (arith, h.1))) in
    rw (null, boolean, number) refl
kind_of-only text (Signed z) h =
    let i = h.0.1 in
    let e = integer_of-complete text z (minus, h.0.0, i) in
    let null = not_null text (λ k. none-some z (sym (null_integer text k) ∙ e)) in
    let boolean = no_boolean text (λ value k. none-some z (sym (boolean_integer text value k) ∙ e)) in
    let sign : sign_of text ≡ minus = rw i.spelled refl in
    let number : number_kind text ≡ None = rw sign refl in
    let v : z ≡ neg_ℤ (pos i.size) = i.value in
    let inside = in_range-inside (neg_ℤ (pos (2 ^ 127))) (pos (2 ^ 127 - 1)) z h.1 (omega (arith, ints, v)) in
    let integer : integer_kind text ≡ Some z = ap (in_range (neg_ℤ (pos (2 ^ 127))) (pos (2 ^ 127 - 1))) e ∙ inside in
    rw (null, boolean, number, integer) refl
kind_of-only text Float h =
    let o = h.0 in
    rw (
      not_null text o.no_null,
      other_boolean text o,
      other_number text o,
      other_integer text o,
      (float-Decides text).1 h.1,
    ) refl
kind_of-only text Str h =
    let o = h.0 in
    let f = unproved (is_float text && not (has_leading_zero text)) _ (float-Decides text) h.1 in
    rw (not_null text o.no_null, other_boolean text o, other_number text o, other_integer text o, f) refl

pub has-at : (text : List ℕ) (kind : Kind) → kind ≡ kind_of text → HasKind text kind
has-at text kind e = subst (HasKind text) (sym e) (kind_of-has text)

pub only-at : (text : List ℕ) (kind : Kind) → kind ≡ kind_of text → (other : Kind) → HasKind text other → other ≡ kind
only-at text kind e other h = kind_of-only text other h ∙ sym e
