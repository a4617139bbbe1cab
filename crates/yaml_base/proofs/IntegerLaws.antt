-- The integer that is computed of a text is the one that its grammar gives.
use mathlib.Core.Bool.{true≢false}
use Rattle.std.specs.Prelude.{Option, None, Some, Bool, true, false, if◌then◌else◌}
use Rattle.std.specs.Prelude.{ℤ, pos}
use Rattle.std.specs.Option.{option_map}
use Rattle.std.proofs.Common.{◌≡◌, ◌≢◌, ℕ, List, refl, sym, ap}
use Rattle.std.proofs.Common.{◌∙◌, subst, inl, inr}
use Rattle.std.proofs.lemmas.Option.{same_Some, none-some}
use Rattle.yaml_base.proofs.RangeLaws.{signed-is}
use Rattle.yaml_base.proofs.SignLaws.{sign-split}
use Rattle.yaml_base.specs.Integers.{Base, decimal}
use Rattle.yaml_base.specs.Integers.{IsInteger, IsIntegerText, IsUnsignedText}
use Rattle.yaml_base.specs.Integers.{IsNegativeText, number_in_base, integer_of}
use Rattle.yaml_base.specs.Integers.{unsigned_of, negative_of}
use Rattle.yaml_base.specs.Signs.{Sign, unsigned, plus, minus, signed, is_minus, sign_of, unsigned_part}
use Rattle.yaml_base.proofs.NumberLaws.{number_in_any_base-complete, number_in_base-complete, number_in_base-sound}
use Rattle.yaml_base.proofs.NumberLaws.{number_in_any_base-sound}
use Rattle.yaml_base.proofs.NumberLaws.{signed-number}

pub mapped : (s : Sign) (o : Option ℕ) (z : ℤ) → option_map (signed s) o ≡ Some z
    → (n : ℕ) × (o ≡ Some n) × (z ≡ signed s n)
mapped s None z e = absurd (none-some z e)
mapped s (Some n) z e = (n, refl, sym (same_Some _ _ e))

-- the sign that a text begins with is the one of its integer
pub integer_of-signed : (text : List ℕ) (z : ℤ) → integer_of text ≡ Some z
    → (base : Base) × IsInteger (sign_of text) base text z
integer_of-signed text z e =
    let m = mapped _ _ z e in
    let b = number_in_any_base-sound _ _ m.1 in
    (b.0, record { body = unsigned_part text; size = m.0; spelled = sign-split text; number = b.1; value = m.2 })

pub integer_of-sound : (text : List ℕ) (z : ℤ) → integer_of text ≡ Some z → IsIntegerText text z
integer_of-sound text z e = let i = integer_of-signed text z e in (sign_of text, i.0, i.1)

integer_of-spelled : (s : Sign) (base : Base) (text : List ℕ) (z : ℤ) → IsInteger s base text z
    → integer_of text ≡ Some z
integer_of-spelled s base text z i =
    let p = signed-number s base i.body i.size i.number in
    rw (i.spelled, p.1, p.0, number_in_any_base-complete base i.body i.size i.number, i.value) refl

pub integer_of-complete : (text : List ℕ) (z : ℤ) → IsIntegerText text z → integer_of text ≡ Some z
integer_of-complete text z h = integer_of-spelled h.0 h.1 text z h.2

-- no minus
pub free : (s : Sign) → is_minus s ≡ false → s ≢ minus
free s f m = true≢false (sym (ap is_minus m) ∙ f)

not_minus : (s : Sign) → s ≢ minus → is_minus s ≡ false
not_minus unsigned h = refl
not_minus plus h = refl
not_minus minus h = absurd (h refl)

pub a_minus : (s : Sign) → is_minus s ≡ true → s ≡ minus
a_minus unsigned e = absurd (true≢false (sym e))
a_minus plus e = absurd (true≢false (sym e))
a_minus minus e = refl

unguarded : {A : Type 0} (t : Bool) (o : Option A) (x : A) → (if t then None else o) ≡ Some x
    → (t ≡ false) × (o ≡ Some x)
unguarded true o x e = absurd (none-some x e)
unguarded false o x e = (refl, e)

pub positive : (s : Sign) (n : ℕ) → is_minus s ≡ false → pos n ≡ signed s n
positive s n f = rw (signed-is s n, f) refl

pub unsigned_of-sound : (text : List ℕ) (n : ℕ) → unsigned_of text ≡ Some n → IsUnsignedText text n
unsigned_of-sound text n e =
    let g = unguarded _ _ n e in
    let b = number_in_any_base-sound _ n g.1 in (
      sign_of text,
      b.0,
      free _ g.0,
      record {
        body = unsigned_part text;
        size = n;
        spelled = sign-split text;
        number = b.1;
        value = positive _ n g.0;
      },
    )

pub unsigned_of-complete : (text : List ℕ) (n : ℕ) → IsUnsignedText text n → unsigned_of text ≡ Some n
unsigned_of-complete text n h =
    let i = h.3 in
    let p = signed-number h.0 h.1 i.body i.size i.number in
    let f = not_minus h.0 h.2 in
    let v : i.size ≡ n = same_pos (sym (i.value ∙ sym (positive h.0 i.size f))) in
    rw (i.spelled, p.1, p.0, f, number_in_any_base-complete h.1 i.body i.size i.number, v) refl
  where
    same_pos : {a b : ℕ} → pos a ≡ pos b → a ≡ b
    same_pos e = cc

pub negative_of-sound : (text : List ℕ) (z : ℤ) → negative_of text ≡ Some z → IsNegativeText text z
negative_of-sound text z e = by (is_minus (sign_of text)) refl e
  where
    by : (t : Bool) → is_minus (sign_of text) ≡ t
        → (if t then integer_of text else option_map pos (number_in_base decimal (unsigned_part text))) ≡ Some z
        → IsNegativeText text z
    by true m h = let i = integer_of-signed text z h in (sign_of text, i.0, inr (a_minus _ m), i.1)
    by false m h =
        let n = mapped unsigned _ z h in (
          sign_of text,
          decimal,
          inl refl,
          record {
            body = unsigned_part text;
            size = n.0;
            spelled = sign-split text;
            number = number_in_base-sound decimal _ n.0 n.1;
            value = n.2 ∙ positive _ n.0 m;
          },
        )

pub negative_of-complete : (text : List ℕ) (z : ℤ) → IsNegativeText text z → negative_of text ≡ Some z
negative_of-complete text z h = by (is_minus h.0) refl
  where
    by : (t : Bool) → is_minus h.0 ≡ t → negative_of text ≡ Some z
    by true m =
        let p = signed-number h.0 h.1 h.3.body h.3.size h.3.number in
        let s : is_minus (sign_of text) ≡ true = rw (h.3.spelled, p.0) m in
        rw s (integer_of-spelled h.0 h.1 text z h.3)
    by false m = elim h.2 [
      | inl d ↦
          let p = signed-number h.0 h.1 h.3.body h.3.size h.3.number in
          let s : is_minus (sign_of text) ≡ false = rw (h.3.spelled, p.0) m in
          let rest : unsigned_part text ≡ h.3.body = rw h.3.spelled p.1 in
          let n : number_in_base decimal h.3.body ≡ Some h.3.size =
          subst (λ b. number_in_base b h.3.body ≡ Some h.3.size) d
          (number_in_base-complete h.1 h.3.body h.3.size h.3.number) in
          rw (s, rest, n, h.3.value, ← positive h.0 h.3.size m) refl
      | inr t ↦ absurd (free h.0 m t)
    ]
