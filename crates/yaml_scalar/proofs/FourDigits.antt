-- Four decimal digits, as the bytes of one word.
use Rattle.std.proofs.Common.{◌≡◌, ℕ, zero, suc, ◌+◌, ◌*◌, ◌-◌, ◌/◌, ◌%◌, ◌^◌, ◌<◌, ◌≤◌, List, [], ◌∷◌, length, refl}
use Rattle.std.proofs.Common.{get_or, sym, ap, ◌∙◌, subst, arith}
use Rattle.std.specs.Char.{digit_value}
use Rattle.std.specs.Int.{w32, from_le_bytes, to_le_bytes}
use Rattle.std.specs.Str.Parse.{AllDigits}
use Rattle.std.proofs.lemmas.Nat.{le_bytes_4, from_le_bytes-to_le_bytes_4}
use Rattle.yaml_base.specs.Integers.{place_value}
use Rattle.yaml_scalar.proofs.SmallNumbers.{digit-byte}

-- each of the four bytes is below 128
abbrev pub HasLowBytes : ℕ → Type 0
HasLowBytes w = (w % 256 < 128) × (w / 256 % 256 < 128) × (w / 65536 % 256 < 128) × (w / 16777216 % 256 < 128)

-- the word of four bytes
abbrev word : ℕ → ℕ → ℕ → ℕ → ℕ
word a b c d = a + b * 256 + c * 65536 + d * 16777216

are-bytes : (a b c d : ℕ) → a < 256 → b < 256 → c < 256 → d < 256 → (i : ℕ) → get_or (a ∷ b ∷ c ∷ d ∷ []) i 0 < 256
are-bytes a b c d p q r s zero = p
are-bytes a b c d p q r s (suc zero) = q
are-bytes a b c d p q r s (suc (suc zero)) = r
are-bytes a b c d p q r s (suc (suc (suc zero))) = s
are-bytes a b c d p q r s (suc (suc (suc (suc i)))) = omega arith

-- its bytes are these
bytes-of-word : (a b c d w : ℕ) → a < 256 → b < 256 → c < 256 → d < 256 → w ≡ word a b c d
    → to_le_bytes w32 w ≡ a ∷ b ∷ c ∷ d ∷ []
bytes-of-word a b c d w p q r s is =
    le_bytes_4 (a ∷ b ∷ c ∷ d ∷ []) w refl (are-bytes a b c d p q r s) (omega (arith, is))

-- bytes below 128 that are so with 118 more are at most 9
at-most-nine : (a b c d y : ℕ) → a < 128 → b < 128 → c < 128 → d < 128
    → y ≡ word (a + 118) (b + 118) (c + 118) (d + 118)
    → HasLowBytes y → (a ≤ 9) × (b ≤ 9) × (c ≤ 9) × (d ≤ 9)
at-most-nine a b c d y p q r s is low =
    let same = bytes-of-word (a + 118) (b + 118) (c + 118) (d + 118) y (omega (arith, p)) (omega (arith, q))
    (omega (arith, r)) (omega (arith, s)) is in
    let first : y % 256 ≡ a + 118 = ap (λ l. get_or l 0 0) same in
    let second : y / 256 % 256 ≡ b + 118 = ap (λ l. get_or l 1 0) same in
    let third : y / 65536 % 256 ≡ c + 118 = ap (λ l. get_or l 2 0) same in
    let fourth : y / 16777216 % 256 ≡ d + 118 = ap (λ l. get_or l 3 0) same in (
      omega (arith, low.0, first),
      omega (arith, low.1, second),
      omega (arith, low.2, third),
      omega (arith, low.3, fourth),
    )

-- what four digits write is read off the word of their values
pub pairs-value : (a b c d : ℕ) → a ≤ 9 → b ≤ 9 → c ≤ 9 → d ≤ 9
    → word a b c d * 2561 / 256 % 256 * 100 + word a b c d * 2561 / 256 / 65536 % 256
    ≡ a * 1000 + b * 100 + c * 10 + d
pairs-value a b c d p q r s =
    let pairs : word a b c d * 2561 / 256 ≡ word (10 * a + b) (10 * b + c) (10 * c + d) (10 * d) = omega arith in
    let same = bytes-of-word (10 * a + b) (10 * b + c) (10 * c + d) (10 * d) (word a b c d * 2561 / 256)
    (omega (arith, p, q)) (omega (arith, q, r)) (omega (arith, r, s)) (omega (arith, s)) pairs in
    let first : word a b c d * 2561 / 256 % 256 ≡ 10 * a + b = ap (λ l. get_or l 0 0) same in
    let third : word a b c d * 2561 / 256 / 65536 % 256 ≡ 10 * c + d = ap (λ l. get_or l 2 0) same in
    omega (arith, first, third)

-- digits with these values
value-of : (a : ℕ) → a ≤ 9 → digit_value (a + 48) ≡ a
value-of a p = omega (arith, digit-byte (a + 48) (omega (arith, p)))

pub digits-value : (a b c d : ℕ) → a ≤ 9 → b ≤ 9 → c ≤ 9 → d ≤ 9
    → AllDigits 10 ((a + 48) ∷ (b + 48) ∷ (c + 48) ∷ (d + 48) ∷ [])
    × (place_value 10 ((a + 48) ∷ (b + 48) ∷ (c + 48) ∷ (d + 48) ∷ []) ≡ a * 1000 + b * 100 + c * 10 + d)
digits-value a b c d p q r s =
    let first = value-of a p in
    let second = value-of b q in
    let third = value-of c r in
    let fourth = value-of d s in (
      (omega (arith, first, p), (omega (arith, second, q), (omega (arith, third, r), (omega (arith, fourth, s), tt)))),
      omega (arith, first, second, third, fourth),
    )

-- Four bytes whose word, less that of four zeros, has low bytes, also with 118 more each, are digits, and their number
-- is read off it.
pub four-read : (bs : List ℕ) (w x y : ℕ) → length bs ≡ 4 → ((i : ℕ) → get_or bs i 0 < 256) → w ≡ from_le_bytes w32 bs
    → w < 2 ^ 32 → x ≡ (w + (2 ^ 32 - 808464432)) % 2 ^ 32 → y ≡ (x + 1987475062) % 2 ^ 32
    → HasLowBytes x → HasLowBytes y
    → AllDigits 10 bs × (x * 2561 / 256 % 256 * 100 + x * 2561 / 256 / 65536 % 256 ≡ place_value 10 bs)
four-read bs w x y four bytes is fits less more low more-low =
    let a = x % 256 in
    let b = x / 256 % 256 in
    let c = x / 65536 % 256 in
    let d = x / 16777216 % 256 in
    let below : x < 2 ^ 32 = omega (arith, less) in
    let whole : x ≡ word a b c d = omega (arith, from_le_bytes-to_le_bytes_4 x below) in
    let sum : y ≡ word (a + 118) (b + 118) (c + 118) (d + 118) = with-118 a b c d x y whole more low in
    let nine = at-most-nine a b c d y low.0 low.1 low.2 low.3 sum more-low in
    let back : w ≡ word (a + 48) (b + 48) (c + 48) (d + 48) = with-48 a b c d w x whole fits less nine in
    let same : (a + 48) ∷ (b + 48) ∷ (c + 48) ∷ (d + 48) ∷ [] ≡ bs =
    sym (bytes-of-word (a + 48) (b + 48) (c + 48) (d + 48) w (omega (arith, nine.0)) (omega (arith, nine.1))
    (omega (arith, nine.2)) (omega (arith, nine.3)) back) ∙ le_bytes_4 bs w four bytes is in
    let digits = digits-value a b c d nine.0 nine.1 nine.2 nine.3 in
    let value = pairs-value a b c d nine.0 nine.1 nine.2 nine.3 in (
      subst (AllDigits 10) same digits.0,
      ap (λ z. z * 2561 / 256 % 256 * 100 + z * 2561 / 256 / 65536 % 256) whole
          ∙ (value ∙ (sym digits.1 ∙ ap (place_value 10) same)),
    )
  where
    with-118 : (a b c d x y : ℕ) → x ≡ word a b c d → y ≡ (x + 1987475062) % 2 ^ 32
        → (a < 128) × (b < 128) × (c < 128) × (d < 128) → y ≡ word (a + 118) (b + 118) (c + 118) (d + 118)
    with-118 a b c d x y whole more low = omega (arith, whole, more, low.0, low.1, low.2, low.3)

    with-48 : (a b c d w x : ℕ) → x ≡ word a b c d → w < 2 ^ 32 → x ≡ (w + (2 ^ 32 - 808464432)) % 2 ^ 32
        → (a ≤ 9) × (b ≤ 9) × (c ≤ 9) × (d ≤ 9) → w ≡ word (a + 48) (b + 48) (c + 48) (d + 48)
    with-48 a b c d w x whole fits less nine = omega (arith, whole, fits, less, nine.0, nine.1, nine.2, nine.3)
