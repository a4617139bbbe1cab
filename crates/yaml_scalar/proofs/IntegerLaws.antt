-- Small integers are read as those of any type.
use Rattle.std.specs.Prelude.{◌≤ℤ◌, ℤ, pos, neg_ℤ, Bool, true, false, Option, None, Some, IfSome, Ok, List}
use Rattle.std.specs.Prelude.{option_and_then}
use Rattle.std.specs.Str.{IsUtf8}
use Rattle.std.proofs.Common.{◌≡◌, ℕ, ◌-◌, ◌^◌, ◌<◌, ◌≤◌, arith, sym, refl, ap, ◌∙◌, subst}
use Rattle.std.proofs.lemmas.Int.{ints}
use Rattle.yaml_base.proofs.RangeLaws.{in_range-inside, int_le-Decides, le-Decides, up_to-inside}
use Rattle.yaml_base.specs.Integers.{integer_of, unsigned_of}
use Rattle.yaml_base.specs.PlainEvent.{PlainScalar}
use Rattle.yaml_shape.specs.IntegerTypes.{bits_of, has_sign, is_of_type, least, greatest}
use Rattle.yaml_shape.specs.PlainData.{signed_data, unsigned_data}
use Rattle.yaml_shape.specs.PlainShape.{IntegerType, i8, u8, integer_shape}
use Rattle.yaml_meaning.specs.CoreTags.{int_tag}
use Rattle.yaml_meaning.specs.ScalarShapes.{plain_text, scalar_answer, signed_text, unsigned_text, widest}
use Rattle.yaml_meaning.specs.ScalarSorts.{is_plain}
use Rattle.yaml_scalar.proofs.SmallNumbers.{read-text}

-- a small integer is one of the type as which one is read
signed-inside : (i : IntegerType) (z : ℤ) → has_sign i ≡ true → neg_ℤ (pos (10 ^ 18)) ≤ℤ z → z ≤ℤ pos (10 ^ 18)
    → (least (widest i) ≤ℤ z) × (z ≤ℤ greatest (widest i))
signed-inside i8 z sign low high = (omega (arith, ints, low), omega (arith, ints, high))
signed-inside _ z sign low high = (grind (arith, ints, low), grind (arith, ints, high))

unsigned-inside : (i : IntegerType) (n : ℕ) → has_sign i ≡ false → n < 10 ^ 18 → n ≤ 2 ^ bits_of (widest i) - 1
unsigned-inside u8 n sign small = omega (arith, small)
unsigned-inside _ n sign small = grind (arith, small)

-- what does not pass a number that is one of the type is so too
pub signed-held : (i : IntegerType) (g : ℕ) (r : Option ℤ) → has_sign i ≡ true → pos g ≤ℤ greatest i
    → IfSome r (λ z. neg_ℤ (pos g) ≤ℤ z) → IfSome r (λ z. z ≤ℤ pos g) → IfSome r (λ z. is_of_type i z ≡ true)
signed-held i g None sign most low high = tt
signed-held i g (Some z) sign most low high =
    let least : least i ≤ℤ z = least-below i g z sign most low in
    let up : z ≤ℤ greatest i = omega (arith, ints, high, most) in
    rw ((int_le-Decides _ z).1 least, (int_le-Decides z _).1 up) refl
  where
    least-below : (i : IntegerType) (g : ℕ) (z : ℤ) → has_sign i ≡ true → pos g ≤ℤ greatest i → neg_ℤ (pos g) ≤ℤ z
        → least i ≤ℤ z
    least-below i8 g z sign most low = omega (arith, ints, most, low)
    least-below _ g z sign most low = grind (arith, ints, most, low)

pub unsigned-held : (i : IntegerType) (g : ℕ) (r : Option ℕ) → has_sign i ≡ false → pos g ≤ℤ greatest i
    → IfSome r (λ n. n ≤ g) → IfSome r (λ n. is_of_type i (pos n) ≡ true)
unsigned-held i g None sign most high = tt
unsigned-held i g (Some n) sign most high =
    let least : least i ≤ℤ pos n = rw sign (omega (arith, ints)) in
    let up : pos n ≤ℤ greatest i = omega (arith, ints, high, most) in
    rw ((int_le-Decides _ (pos n)).1 least, (int_le-Decides (pos n) _).1 up) refl

-- so a plain scalar whose text writes a small integer is read, whatever its tag
pub signed-there : (i : IntegerType) (s : PlainScalar) (r : Option ℤ) → has_sign i ≡ true → is_plain s.style ≡ true
    → IfSome r (λ z. IsUtf8 s.text) → IfSome r (λ z. integer_of s.text ≡ Some z)
    → IfSome r (λ z. neg_ℤ (pos (10 ^ 18)) ≤ℤ z) → IfSome r (λ z. z ≤ℤ pos (10 ^ 18))
    → IfSome r (λ z. (taken : Bool) → option_and_then (signed_text i) (plain_text int_tag taken s) ≡ Some z)
signed-there i s None sign plain utf8 value low high = tt
signed-there i s (Some z) sign plain utf8 value low high =
    let inside = signed-inside i z sign low high in
    let read : signed_text i s.text ≡ Some z = rw value (in_range-inside _ _ z inside.0 inside.1) in
    λ taken. rw plain (sym (read-text (signed_text i) s.text z utf8 read))

pub unsigned-there : (i : IntegerType) (s : PlainScalar) (r : Option ℕ) → has_sign i ≡ false → is_plain s.style ≡ true
    → IfSome r (λ n. IsUtf8 s.text) → IfSome r (λ n. unsigned_of s.text ≡ Some n) → IfSome r (λ n. n < 10 ^ 18)
    → IfSome r (λ n. (taken : Bool) → option_and_then (unsigned_text i) (plain_text int_tag taken s) ≡ Some n)
unsigned-there i s None sign plain utf8 value small = tt
unsigned-there i s (Some n) sign plain utf8 value small =
    let read : unsigned_text i s.text ≡ Some n = rw value (up_to-inside _ n (unsigned-inside i n sign small)) in
    λ taken. rw plain (sym (read-text (unsigned_text i) s.text n utf8 read))

-- what a plain scalar gives whose text writes a small integer of the type, whatever its tag
pub signed-answers : (i : IntegerType) (text : List ℕ) (r : Option ℤ) → has_sign i ≡ true
    → IfSome r (λ z. IsUtf8 text) → IfSome r (λ z. integer_of text ≡ Some z) → IfSome r (λ z. neg_ℤ (pos (10 ^ 18)) ≤ℤ z)
    → IfSome r (λ z. z ≤ℤ pos (10 ^ 18)) → IfSome r (λ z. is_of_type i z ≡ true)
    → IfSome r (λ z. (s : PlainScalar) (taken : Bool) → s.text ≡ text → is_plain s.style ≡ true
    → scalar_answer (integer_shape i) taken s ≡ Ok (signed_data z))
signed-answers i text None sign utf8 value low high held = tt
signed-answers i text (Some z) sign utf8 value low high held = λ s taken same plain.
    let there = signed-there i s (Some z) sign plain (subst IsUtf8 (sym same) utf8) (ap integer_of same ∙ value) low high
    taken in
    let inside = rw sign at held in
    rw sign (rw there (rw inside refl))

below : (i : IntegerType) (n : ℕ) → has_sign i ≡ false → pos n ≤ℤ greatest i → n ≤ 2 ^ bits_of i - 1
below u8 n sign high = omega (arith, ints, high)
below _ n sign high = grind (arith, ints, high)

pub unsigned-answers : (i : IntegerType) (g : ℕ) (text : List ℕ) (r : Option ℕ) → has_sign i ≡ false
    → pos g ≤ℤ greatest i → IfSome r (λ n. IsUtf8 text) → IfSome r (λ n. unsigned_of text ≡ Some n)
    → IfSome r (λ n. n < 10 ^ 18) → IfSome r (λ n. n ≤ g)
    → IfSome r (λ n. (s : PlainScalar) (taken : Bool) → s.text ≡ text → is_plain s.style ≡ true
    → scalar_answer (integer_shape i) taken s ≡ Ok (unsigned_data n))
unsigned-answers i g text None sign most utf8 value small high = tt
unsigned-answers i g text (Some n) sign most utf8 value small high = λ s taken same plain.
    let there = unsigned-there i s (Some n) sign plain (subst IsUtf8 (sym same) utf8) (ap unsigned_of same ∙ value) small
    taken in
    let up : pos n ≤ℤ greatest i = omega (arith, ints, high, most) in
    rw sign (rw there (rw ((le-Decides n (2 ^ bits_of i - 1)).1 (below i n sign up)) refl))
