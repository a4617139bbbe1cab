-- Numbers of a few decimal digits, as a loop from the left reads them.
use Rattle.std.proofs.Common.{◌≡◌, ℕ, zero, suc, ◌+◌, ◌*◌, ◌-◌, ◌^◌, ◌<◌, ◌≤◌, List, [], ◌∷◌, ◌++◌, length, take, drop}
use Rattle.std.proofs.Common.{refl, sym, ap, ◌∙◌, subst, arith, true, false}
use Rattle.std.specs.Prelude.{Option, None, Some, IfSome, option_and_then, nat_lt, ◌==◌}
use Rattle.std.specs.Char.{digit_value}
use Rattle.std.specs.Int.{IsInRange}
use Rattle.std.specs.List.{list_all}
use Rattle.std.specs.Str.{IsAscii, IsUtf8}
use Rattle.std.specs.Str.Parse.{AllDigits}
use Rattle.std.proofs.lemmas.Bool.{ne_eqb}
use Rattle.std.proofs.lemmas.Bool.Decides.{Decides-ltb}
use Rattle.std.proofs.lemmas.List.{length-take-le, take-append-drop}
use Rattle.std.proofs.lemmas.Fmt.{IsAscii-from_digits}
use Rattle.std.proofs.lemmas.Str.{digit_value_digit, IsUtf8-from_ascii}
use Rattle.std.proofs.Math.Nat.{pow-succ', pow-le-pow_right, mul-le-mul_left, mul-le-mul_right, le-mul_of_pos_right}
use Rattle.std.proofs.Math.Nat.{one-le-pow}
use Rattle.yaml_meaning.specs.ScalarShapes.{utf8_text}
use Rattle.yaml_scalar.proofs.TextLaws.{bytes-there}
use Rattle.yaml_base.specs.Integers.{decimal, has_zero_in_front, number_in_base, place_value}

-- the number that digits write behind a number
abbrev pub behind : ℕ → List ℕ → ℕ
behind n ds = n * 10 ^ length ds + place_value 10 ds

-- nothing stands behind the last digit
behind-none : (n : ℕ) → behind n [] ≡ n
behind-none n = omega arith

-- one digit goes over into the number
behind-digit : (n c : ℕ) (cs : List ℕ) → behind n (c ∷ cs) ≡ behind (n * 10 + digit_value c) cs
behind-digit n c cs = rw pow-succ' (moved n (digit_value c) (10 ^ length cs) (place_value 10 cs))
  where
    moved : (n d p w : ℕ) → n * (10 * p) + (d * p + w) ≡ (n * 10 + d) * p + w
    moved n d p w = omega arith

-- the value of a digit, as its byte has it
pub digit-byte : (c : ℕ) → IsInRange 48 57 c → digit_value c ≡ c - 48
digit-byte c digit = omega (arith, digit_value_digit c digit)

-- A number was read of digits, and some are left: these write the number of all behind it, all are digits where these
-- are, and the number is small whatever they are.
abbrev pub IsRead : ℕ → List ℕ → List ℕ → Type 0
IsRead n left ds =
    (behind n left ≡ place_value 10 ds)
    × (AllDigits 10 left → AllDigits 10 ds)
    × ((n + 1) * 10 ^ length left ≤ 10 ^ 18)

room-left : (n d p : ℕ) → d < 10 → (n * 10 + d + 1) * p ≤ (n + 1) * (10 * p)
room-left n d p digit =
    let more : (n * 10 + d + 1) * p ≤ ((n + 1) * 10) * p = mul-le-mul_right p (omega (arith, digit)) in
    omega (arith, more)

-- one digit is read
read-digit : (n c : ℕ) (cs ds : List ℕ) → digit_value c < 10 → IsRead n (c ∷ cs) ds
    → IsRead (n * 10 + digit_value c) cs ds
read-digit n c cs ds digit r =
    let room : (n + 1) * (10 * 10 ^ length cs) ≤ 10 ^ 18 = rw pow-succ' at r.2 in (
      sym (behind-digit n c cs) ∙ r.0,
      λ all. r.1 (digit, all),
      omega (arith, room, room-left n (digit_value c) (10 ^ length cs) digit),
    )

pub read-byte : (n c : ℕ) (cs ds : List ℕ) → IsInRange 48 57 c → IsRead n (c ∷ cs) ds → IsRead (n * 10 + (c - 48)) cs ds
read-byte n c cs ds digit r =
    let value = digit-byte c digit in
    rw value at (read-digit n c cs ds (omega (arith, value, digit)) r)

-- several are
read-digits : (n : ℕ) (some cs ds : List ℕ) → AllDigits 10 some → IsRead n (some ++ cs) ds
    → IsRead (behind n some) cs ds
read-digits n [] cs ds all r = rw behind-none r
read-digits n (c ∷ some) cs ds all r =
    rw behind-digit (read-digits (n * 10 + digit_value c) some cs ds all.1 (read-digit n c (some ++ cs) ds all.0 r))

pub read-four : (n : ℕ) (left four rest ds : List ℕ) → four ≡ take 4 left → rest ≡ drop 4 left
    → length rest + 4 ≡ length left → AllDigits 10 four → IsRead n left ds
    → IsRead (n * 10000 + place_value 10 four) rest ds
read-four n left four rest ds is rest-is more all r =
    let few : length four ≡ 4 = rw is (length-take-le 4 left (omega (arith, more))) in
    let whole : IsRead n (four ++ rest) ds = rw (is, rest-is, take-append-drop 4 left) r in
    rw few at (read-digits n four rest ds all whole)

-- the first is
pub read-first : (c : ℕ) (cs : List ℕ) → IsInRange 49 57 c → length cs < 18 → IsRead (c - 48) cs (c ∷ cs)
read-first c cs digit few =
    let few' : length (c ∷ cs) ≤ 18 = omega (arith, few) in
    let most : 10 ^ length (c ∷ cs) ≤ 10 ^ 18 = pow-le-pow_right (omega arith) few' in
    let none : IsRead 0 (c ∷ cs) (c ∷ cs) = (omega arith, λ all. all, omega (arith, most)) in
    let value : 0 * 10 + (c - 48) ≡ c - 48 = omega arith in
    rw value at (read-byte 0 c cs (c ∷ cs) (omega (arith, digit)) none)

-- so many of those left have room behind it
pub read-room : (n k : ℕ) (left ds : List ℕ) → k ≤ length left → IsRead n left ds → (n + 1) * 10 ^ k ≤ 10 ^ 18
read-room n k left ds few r =
    let less : 10 ^ k ≤ 10 ^ length left = pow-le-pow_right (omega arith) few in
    omega (arith, r.2, mul-le-mul_left (n + 1) less)

-- what was read is small
pub read-small : (n : ℕ) (left ds : List ℕ) → IsRead n left ds → n < 10 ^ 18
read-small n left ds r =
    let some : 0 < 10 ^ length left = one-le-pow (length left) 10 (omega arith) in
    omega (arith, r.2, le-mul_of_pos_right (n + 1) some)

-- all digits pass the test
all-pass : (ds : List ℕ) → AllDigits 10 ds → list_all (λ c. nat_lt (digit_value c) 10) ds ≡ true
all-pass [] all = refl
all-pass (d ∷ ds) all = rw ((Decides-ltb (digit_value d) 10).1 all.0, all-pass ds all.1) refl

-- all were read where none is left, and the first is not zero
pub read-whole : (n c : ℕ) (cs ds : List ℕ) → ds ≡ c ∷ cs → IsInRange 49 57 c → IsRead n [] ds
    → number_in_base decimal ds ≡ Some n
read-whole n c cs ds is digit r =
    let read : n ≡ place_value 10 ds = sym (behind-none n) ∙ r.0 in
    let other : (c == 48) ≡ false = ne_eqb c 48 (λ e. omega (arith, digit, e)) in
    let alone : has_zero_in_front decimal ds ≡ false = rw (is, other) refl in
    let some : 0 < length ds = rw is (omega arith) in
    rw (alone, (Decides-ltb 0 (length ds)).1 some, all-pass ds (r.1 tt)) (ap Some (sym read))

-- digits are a text, behind a minus too
pub digits-utf8 : (ds : List ℕ) → AllDigits 10 ds → IsUtf8 ds
digits-utf8 ds all = IsUtf8-from_ascii ds (IsAscii-from_digits ds all)

pub number-utf8 : (r : Option ℕ) (ds : List ℕ) → IfSome r (λ n. AllDigits 10 ds) → IfSome r (λ n. IsUtf8 ds)
number-utf8 None ds all = tt
number-utf8 (Some n) ds all = digits-utf8 ds all

pub zero-utf8 : (text ds : List ℕ) (c : ℕ) → text ≡ c ∷ ds → c ≡ 48 → length ds ≡ 0 → IsUtf8 text
zero-utf8 text [] c same is none = rw (same, is) (digits-utf8 (48 ∷ []) (omega arith, tt))
zero-utf8 text (d ∷ ds) c same is none = absurd (omega (arith, none))

minus-ascii : (ds : List ℕ) → IsAscii ds → IsAscii (45 ∷ ds)
minus-ascii ds ascii zero = omega arith
minus-ascii ds ascii (suc i) = ascii i

pub minus-utf8 : (text ds : List ℕ) (c : ℕ) → text ≡ c ∷ ds → c ≡ 45 → AllDigits 10 ds → IsUtf8 text
minus-utf8 text ds c same is all =
    subst IsUtf8 (sym (same ∙ ap (λ b. b ∷ ds) is))
    (IsUtf8-from_ascii (45 ∷ ds) (minus-ascii ds (IsAscii-from_digits ds all)))

-- bytes that are a text are read as it
pub read-text : {A : Type 0} (read : List ℕ → Option A) (bytes : List ℕ) (x : A) → IsUtf8 bytes → read bytes ≡ Some x
    → Some x ≡ option_and_then read (utf8_text bytes)
read-text read bytes x utf8 is = rw (← bytes-there bytes utf8) (sym is)
