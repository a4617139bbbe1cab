-- The bytes of a character's code, by their bits.
use Rattle.std.proofs.Common.{ℕ, ◌+◌, ◌/◌, ◌%◌, ◌<◌, ◌≤◌, ◌≡◌, ap, ◌∙◌, arith, bit_and, bit_or, [], ◌∷◌}
use Rattle.std.proofs.lemmas.Bool.{le-ltb, lt-ltb}
use Rattle.std.proofs.lemmas.Nat.{and_mask, mod_below, or_shifted}
use lib.Utf8.{encode}

-- the last six bits, behind 128
pub last_bits : (n : ℕ) → bit_or 128 (bit_and n 63) ≡ 128 + n % 64
last_bits n = ap (bit_or 128) (and_mask n 6) ∙ or_shifted 2 6 (n % 64) (mod_below n 64 (omega arith))

-- the first bits of two bytes, of three, and of four
pub first_of_two : (n : ℕ) → n < 32 → bit_or 192 (bit_and n 31) ≡ 192 + n
first_of_two n h =
    let same : n % 32 ≡ n = omega (arith, h) in
    ap (bit_or 192) (and_mask n 5 ∙ same) ∙ or_shifted 6 5 n h

pub first_of_three : (n : ℕ) → n < 16 → bit_or 224 (bit_and n 15) ≡ 224 + n
first_of_three n h =
    let same : n % 16 ≡ n = omega (arith, h) in
    ap (bit_or 224) (and_mask n 4 ∙ same) ∙ or_shifted 14 4 n h

pub first_of_four : (n : ℕ) → n < 8 → bit_or 240 (bit_and n 7) ≡ 240 + n
first_of_four n h =
    let same : n % 8 ≡ n = omega (arith, h) in
    ap (bit_or 240) (and_mask n 3 ∙ same) ∙ or_shifted 30 3 n h

-- so these are the bytes of a character, by how many it has
pub two_bytes : (n : ℕ) → 127 < n → n ≤ 2047
    → bit_or 192 (bit_and (n / 64) 31) ∷ (128 + n % 64) ∷ [] ≡ encode n
unfolding encode
two_bytes n low high =
    rw (le-ltb n 128 (omega arith), lt-ltb n 2048 (omega arith))
    (ap (λ b. b ∷ (128 + n % 64) ∷ []) (first_of_two (n / 64) (omega arith)))

pub three_bytes : (n : ℕ) → 2047 < n → n ≤ 65535
    → bit_or 224 (bit_and (n / 4096) 15) ∷ (128 + n / 64 % 64) ∷ (128 + n % 64) ∷ [] ≡ encode n
unfolding encode
three_bytes n low high =
    rw (le-ltb n 128 (omega arith), le-ltb n 2048 (omega arith), lt-ltb n 65536 (omega arith))
    (ap (λ b. b ∷ (128 + n / 64 % 64) ∷ (128 + n % 64) ∷ []) (first_of_three (n / 4096) (omega arith)))

pub four_bytes : (n : ℕ) → 65535 < n → n ≤ 1114111
    → bit_or 240 (bit_and (n / 262144) 7) ∷ (128 + n / 4096 % 64) ∷ (128 + n / 64 % 64) ∷ (128 + n % 64) ∷ [] ≡ encode n
unfolding encode
four_bytes n low high =
    rw (le-ltb n 128 (omega arith), le-ltb n 2048 (omega arith), le-ltb n 65536 (omega arith))
    (ap (λ b. b ∷ (128 + n / 4096 % 64) ∷ (128 + n / 64 % 64) ∷ (128 + n % 64) ∷ [])
    (first_of_four (n / 262144) (omega arith)))
