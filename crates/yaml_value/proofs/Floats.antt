-- The same float has one hash, and to be the same float is an equivalence.
use Rattle.std.specs.Prelude.{◌≡◌, Bool, true, false, cond, if◌then◌else◌, T, refl}
use Rattle.std.specs.Bool.{passes}
use Rattle.std.specs.Float.{binary64, float_key}
use Rattle.std.specs.Float.Cmp.{floats_per, same_key}
use Rattle.std.specs.Float.Ieee.{Float, eq, is_nan, lt}
use Rattle.std.specs.Float.Order as floats
use Rattle.std.specs.Ordering.{is_eq}
use lib.Ieee.{nan, inf, fin}
use Rattle.std.proofs.Common.{Equal, Greater, Less, Ordering, sym, ◌∙◌, true≢false}
use Rattle.yaml_tree.specs.TakeOut.{from_false}
use Rattle.yaml_value.specs.PlainEqual.{same_float}

-- what is no number is equal to nothing by `==`
eq_nan : (x y : Float) → is_nan x ≡ true → eq x y ≡ true → ⊥
unfolding eq is_nan
eq_nan nan y n e = true≢false (sym e)
eq_nan (inf s) y n e = true≢false (sym n)
eq_nan (fin s m d) y n e = true≢false (sym n)

-- one of two floats is a number where both are the same and the other is one
abbrev Same : (a b : Bool) → Float → Float → Type 0
Same a b x y = (if a then b else eq x y) ≡ true

symm_by : (x y : Float) (a b : Bool) → is_nan x ≡ a → is_nan y ≡ b → Same a b x y → Same b a y x
symm_by x y true true p q e = refl
symm_by x y true false p q e = from_false e
symm_by x y false true p q e = absurd (eq_nan y x q (floats_per.symm y x ∙ e))
symm_by x y false false p q e = floats_per.symm y x ∙ e

pub same_float-symm : (x y : Float) → same_float x y ≡ true → same_float y x ≡ true
same_float-symm x y e = symm_by x y (is_nan x) (is_nan y) refl refl e

trans_by : (x y z : Float) (a b c : Bool) → is_nan x ≡ a → is_nan y ≡ b → is_nan z ≡ c → Same a b x y → Same b c y z
    → Same a c x z
trans_by x y z true true c p q r e f = f
trans_by x y z true false c p q r e f = from_false e
trans_by x y z false true c p q r e f = absurd (eq_nan y x q (floats_per.symm y x ∙ e))
trans_by x y z false false c p q r e f = floats_per.trans x y z e f

pub same_float-trans : (x y z : Float) → same_float x y ≡ true → same_float y z ≡ true → same_float x z ≡ true
same_float-trans x y z e f = trans_by x y z (is_nan x) (is_nan y) (is_nan z) refl refl refl e f

not_so : (b : Bool) → (T b → ⊥) → b ≡ false
not_so true n = absurd (n tt)
not_so false n = refl

abbrev placing : Bool → Bool → Bool → Bool → Ordering
placing a b l g = cond a (cond b Equal Greater) (cond b Less (cond l Less (cond g Greater Equal)))

key_by : (x y : Float) (a b : Bool) → is_nan x ≡ a → is_nan y ≡ b → Same a b x y
    → float_key binary64 x ≡ float_key binary64 y
key_by x y true true p q e = same_key binary64 x y (λ i. is_eq (placing (p i) (q i) (lt x y) (lt y x)))
key_by x y true false p q e = from_false e
key_by x y false true p q e = absurd (eq_nan y x q (floats_per.symm y x ∙ e))
key_by x y false false p q e =
    let back : eq y x ≡ true = floats_per.symm y x ∙ e in
    let l = not_so (lt x y) (floats.eq-not_lt x y (passes (eq x y) e)) in
    let g = not_so (lt y x) (floats.eq-not_lt y x (passes (eq y x) back)) in
    same_key binary64 x y (λ i. is_eq (placing (p i) (q i) (l i) (g i)))

pub same_float-key : (x y : Float) → same_float x y ≡ true → float_key binary64 x ≡ float_key binary64 y
same_float-key x y e = key_by x y (is_nan x) (is_nan y) refl refl e
