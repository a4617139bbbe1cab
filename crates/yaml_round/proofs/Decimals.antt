-- Integers that are written in decimals are integer texts, and of that kind.
use Rattle.std.specs.Prelude.{Some, Ok, decimal, ℤ, pos, negsuc, neg_ℤ, ◌≤ℤ◌}
use Rattle.std.specs.Fmt.{signed_decimal}
use Rattle.std.specs.Str.{IsAscii, is_utf8}
use Rattle.std.specs.Str.Parse.{ParsesUnsigned}
use Rattle.std.proofs.Common.{◌≡◌, ◌≢◌, ℕ, zero, suc, ◌+◌, ◌-◌, ◌/◌, ◌%◌, ◌^◌, ◌<◌, ◌≤◌, List, [], ◌∷◌, ◌++◌, length}
use Rattle.std.proofs.Common.{true, refl, sym, arith, get_or, ◌∙◌}
use Rattle.std.proofs.lemmas.Fmt.{decimal_is_IsNumeral_wide, decimal_by_steps_wide, IsAscii-decimal_wide}
use Rattle.std.proofs.lemmas.Int.{ints}
use Rattle.std.proofs.lemmas.Option.{same_Some}
use Rattle.std.proofs.lemmas.Str.{IsAscii-append, IsUtf8-from_ascii, is_utf8-from_IsUtf8}
use Rattle.std.proofs.lemmas.Str.Parse.{digit_at, without_leading_plus_none}
use Rattle.yaml_base.proofs.DigitLaws.{digits_number-parsed, numeral-Decides}
use Rattle.yaml_base.proofs.IntegerLaws.{integer_of-complete, unsigned_of-complete}
use Rattle.yaml_base.proofs.KindLaws.{kind_of-only}
use Rattle.yaml_base.proofs.RangeLaws.{up_to-found}
use Rattle.yaml_base.specs.Integers.{IsNumber, IsInteger, IsUnsignedText, integer_of, unsigned_of, digits_number}
use Rattle.yaml_base.specs.Integers as base
use Rattle.yaml_base.specs.Kinds.{kind_of}
use Rattle.yaml_base.specs.Signs.{unsigned, minus}
use Rattle.yaml_base.specs.declared.resolver.kind.Kind.TheVariants.{Unsigned, Signed}

-- the digits of a number are there, and they begin with zero only where they are those of zero
abbrev BeginsWell : ℕ → List ℕ → Type 0
BeginsWell n ds = (0 < length ds) × (get_or ds 0 0 ≡ 48 → (n ≡ 0) × (length ds ≡ 1))

first-append : (ds : List ℕ) (d : ℕ) → 0 < length ds → get_or (ds ++ (d ∷ [])) 0 0 ≡ get_or ds 0 0
first-append [] d h = absurd (omega (arith, h))
first-append (c ∷ cs) d h = refl

long-append : (ds : List ℕ) (d : ℕ) → 0 < length (ds ++ (d ∷ []))
long-append [] d = omega arith
long-append (c ∷ cs) d = omega arith

begins_well : (n : ℕ) → n < 10 ^ 64 → BeginsWell n (decimal n)
begins_well n small = decimal_by_steps_wide BeginsWell one more n small
  where
    one : (n : ℕ) → n < 10 → BeginsWell n ((48 + n) ∷ [])
    one n h = (omega arith, λ e. (omega (arith, e), refl))

    more : (n : ℕ) (ds : List ℕ) → 10 ≤ n → BeginsWell (n / 10) ds → BeginsWell n (ds ++ ((48 + n % 10) ∷ []))
    more n ds h b = (
      long-append ds _,
      λ e. absurd (omega (arith, h, (b.1 (sym (first-append ds (48 + n % 10) b.0) ∙ e)).0)),
    )

-- the digits of a number write it
decimal-number : (n : ℕ) → n < 10 ^ 64 → n < 2 ^ 128 → IsNumber base.decimal (decimal n) n
decimal-number n wide small =
    let i = decimal_is_IsNumeral_wide n wide in
    let b = begins_well n wide in
    let first = digit_at (decimal n) 0 i.0.1 b.0 in
    let digit : get_or (decimal n) 0 0 ≢ 43 = λ e. omega (arith, first.0, e) in
    let read : ParsesUnsigned {E = ℕ} 128 10 (decimal n) (Ok n) =
    rw (without_leading_plus_none (decimal n) digit) ((i.0, omega (arith, i.1, small)), sym i.1) in
    let there = digits_number-parsed {E = ℕ} 10 (decimal n) (Ok n) (Some n) digit read refl in
    let found = up_to-found (2 ^ 128 - 1) (digits_number 10 (decimal n)) n (sym there) in
    let value = rw ((numeral-Decides 10 (decimal n)).1 i.0) at found in
    record {
      digits = decimal n;
      spelled = refl;
      present = b.0;
      all_digits = i.0.1;
      zero_alone = λ e. (b.1 e).1;
      value = sym (same_Some _ _ value);
    }

small-number : (n : ℕ) → n < 2 ^ 128 → IsNumber base.decimal (decimal n) n
small-number n h = decimal-number n (omega (arith, h)) h

plain-integer : (n : ℕ) → n < 2 ^ 128 → IsInteger unsigned base.decimal (decimal n) (pos n)
plain-integer n h =
    record { body = decimal n; size = n; spelled = refl; number = small-number n h; value = refl }

minus-integer : (n : ℕ) → n < 2 ^ 127 → IsInteger minus base.decimal (signed_decimal (negsuc n)) (negsuc n)
minus-integer n h =
    record {
      body = decimal (suc n);
      size = suc n;
      spelled = refl;
      number = small-number (suc n) (omega (arith, h));
      value = refl;
    }

no_minus : unsigned ≢ minus
no_minus e = absurd cc

plain-text : (n : ℕ) → n < 2 ^ 128 → IsUnsignedText (decimal n) n
plain-text n h = (unsigned, base.decimal, no_minus, plain-integer n h)

-- numbers and integers that were written are what their texts write
pub unsigned_of-decimal : (n : ℕ) → n < 2 ^ 128 → unsigned_of (decimal n) ≡ Some n
unsigned_of-decimal n h = unsigned_of-complete (decimal n) n (plain-text n h)

pub integer_of-signed_decimal : (z : ℤ) → neg_ℤ (pos (2 ^ 127)) ≤ℤ z → z ≤ℤ pos (2 ^ 128 - 1)
    → integer_of (signed_decimal z) ≡ Some z
integer_of-signed_decimal (pos n) low high =
    integer_of-complete (decimal n) (pos n)
    (unsigned, base.decimal, plain-integer n (omega (arith, ints, high)))
integer_of-signed_decimal (negsuc n) low high =
    integer_of-complete (signed_decimal (negsuc n)) (negsuc n)
    (minus, base.decimal, minus-integer n (omega (arith, ints, low)))

-- their texts are of the kinds of numbers and of integers below 0
pub kind_of-decimal : (n : ℕ) → n < 2 ^ 128 → kind_of (decimal n) ≡ Unsigned n
kind_of-decimal n h = sym (kind_of-only (decimal n) (Unsigned n) (plain-text n h, h))

pub kind_of-negative : (n : ℕ) → n < 2 ^ 127 → kind_of (signed_decimal (negsuc n)) ≡ Signed (negsuc n)
kind_of-negative n h =
    sym (kind_of-only (signed_decimal (negsuc n)) (Signed (negsuc n))
    ((base.decimal, minus-integer n h), omega (arith, ints, h)))

-- their texts are UTF-8
minus_ascii : IsAscii (45 ∷ [])
minus_ascii zero = omega arith
minus_ascii (suc i) = omega arith

IsAscii-small : (n : ℕ) → n < 2 ^ 128 → IsAscii (decimal n)
IsAscii-small n h = IsAscii-decimal_wide n (omega (arith, h))

pub is_utf8-decimal : (n : ℕ) → n < 2 ^ 128 → is_utf8 (decimal n) ≡ true
is_utf8-decimal n h = is_utf8-from_IsUtf8 (decimal n) (IsUtf8-from_ascii (decimal n) (IsAscii-small n h))

pub is_utf8-signed_decimal : (z : ℤ) → neg_ℤ (pos (2 ^ 127)) ≤ℤ z → z ≤ℤ pos (2 ^ 128 - 1)
    → is_utf8 (signed_decimal z) ≡ true
is_utf8-signed_decimal (pos n) low high = is_utf8-decimal n (omega (arith, ints, high))
is_utf8-signed_decimal (negsuc n) low high =
    is_utf8-from_IsUtf8 (signed_decimal (negsuc n)) (IsUtf8-from_ascii (signed_decimal (negsuc n))
    (IsAscii-append (45 ∷ []) (decimal (suc n)) minus_ascii (IsAscii-small (suc n) (omega (arith, ints, low)))))
