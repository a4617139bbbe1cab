-- What stands behind a part of an escape.
use Rattle.std.proofs.Common.{ℕ, ◌+◌, ◌-◌, ◌*◌, ◌%◌, ◌^◌, ◌<◌, ◌≤◌, ◌≡◌, ◌==◌, Bool, true, false, List, [], ◌∷◌}
use Rattle.std.proofs.Common.{Option, Some, None, inl, inr, ◌⊎◌, refl, sym, ap, ap₂, ◌∙◌, arith, subst, drop, length}
use Rattle.std.proofs.Common.{encode_utf8}
use Rattle.std.proofs.Common.{bit_and, bit_or, if◌then◌else◌, eqb-true, ne_eqb, ◌≢◌, IfSome, length-drop}
use Rattle.std.proofs.Math.Bool.{and-false}
use Rattle.std.proofs.Math.Nat.{pow-le-pow_right}
use Rattle.std.proofs.lemmas.Bool.{cases_lt, le-ltb, lt-ltb, lt-leb}
use Rattle.std.proofs.lemmas.Bool.Decides.{nat_tests}
use Rattle.std.proofs.lemmas.List.{drop_all, drop_more, get_or_past}
use Rattle.std.proofs.lemmas.Nat.{and_mask, or_shifted, pow-add}
use Rattle.std.specs.Char.{digit_value}
use Rattle.yaml_base.specs.QuotedLines.{backslash, none, digits, character_code, letter_code}
use Rattle.yaml_direct.specs.Bytes.{at}
use Rattle.yaml_direct.specs.Quoted.{SayCode, SaysCode, digits_from, digits_of, quoted_from}
use Rattle.yaml_direct.specs.declared.quote.Quote.TheVariants.{Double}
use Rattle.yaml_direct.proofs.WithBytes.{twice}
use Rattle.yaml_grammar.specs.Folding.{Rest, nothing_passed, with_bytes}
use Rattle.yaml_grammar.specs.Quotes.{double_rest, with_character}

-- the character of a code, and then the rest
abbrev pub coded : Option ℕ → List ℕ → Rest
coded None cs = None
coded (Some code) cs = with_bytes 0 (encode_utf8 code) (double_rest none false nothing_passed cs)

-- so many digits are to come, or none is
abbrev pub behind_digits : (left code : ℕ) → List ℕ → Rest
behind_digits left code cs =
    if left == 0 then coded (character_code code) cs else double_rest (digits left code) false nothing_passed cs

some_left : (left : ℕ) → 0 < left → (left == 0) ≡ false
some_left left h = grind (arith, h)

none_left : (left : ℕ) → (left == 1) ≡ true → (left - 1 == 0) ≡ true
none_left left h = grind (arith, h)

more_left : (left : ℕ) → 0 < left → (left == 1) ≡ false → (left - 1 == 0) ≡ false
more_left left some h = grind (arith, some, h)

last_digit : (code : Option ℕ) (cs : List ℕ)
    → with_character code nothing_passed (double_rest none false nothing_passed cs) ≡ with_bytes 1 [] (coded code cs)
last_digit None cs = refl
last_digit (Some code) cs = sym (twice 1 0 [] (encode_utf8 code) (double_rest none false nothing_passed cs))

digit_by : (left code c : ℕ) (cs : List ℕ) (last : Bool) → 0 < left → (left == 1) ≡ last → digit_value c < 16
    → behind_digits left code (c ∷ cs)
    ≡ with_bytes 1 [] (behind_digits (left - 1) (16 * code + digit_value c) cs)
digit_by left code c cs true some e digit =
    rw (some_left left some, lt-ltb (digit_value c) 16 digit, e, none_left left e)
    (last_digit (character_code (16 * code + digit_value c)) cs)
digit_by left code c cs false some e digit =
    rw (some_left left some, lt-ltb (digit_value c) 16 digit, e, more_left left some e) refl

no_digit_by : (left code c : ℕ) (cs : List ℕ) → 0 < left → 16 ≤ digit_value c → behind_digits left code (c ∷ cs) ≡ None
no_digit_by left code c cs some other = rw (some_left left some, le-ltb (digit_value c) 16 other) refl

no_byte : (left code : ℕ) → 0 < left → behind_digits left code [] ≡ None
no_byte left code some = rw (some_left left some) refl

-- a digit in a place
pub digit_at : (text : List ℕ) (i left code digit : ℕ) → 0 < left → digit ≡ digit_value (at text i) → digit < 16
    → behind_digits left code (drop i text)
    ≡ with_bytes 1 [] (behind_digits (left - 1) (16 * code + digit) (drop (i + 1) text))
digit_at text i left code digit some is small =
    elim (cases_lt i (length text)) [
      | inl here ↦ ap (behind_digits left code) (drop_more text i 0 here)
          ∙ digit_by left code (at text i) (drop (i + 1) text) (left == 1) some refl (subst (λ x. x < 16) is small)
          ∙ ap (λ x. with_bytes 1 [] (behind_digits (left - 1) (16 * code + x) (drop (i + 1) text))) (sym is)
      | inr past ↦ absurd (past_digit (get_or_past text i 0 past))
    ]
  where
    past_digit : at text i ≡ 0 → ⊥
    past_digit e = let h : digit_value 0 < 16 =
        subst (λ x. digit_value x < 16) e (subst (λ x. x < 16) is small) in omega (arith, h)

-- none in a place, or the end
pub no_digit_at : (text : List ℕ) (i left code : ℕ) → 0 < left → 16 ≤ digit_value (at text i)
    → behind_digits left code (drop i text) ≡ None
no_digit_at text i left code some other =
    elim (cases_lt i (length text)) [
      | inl here ↦ ap (behind_digits left code) (drop_more text i 0 here)
          ∙ no_digit_by left code (at text i) (drop (i + 1) text) some other
      | inr past ↦ ap (behind_digits left code) (drop_all i text past) ∙ no_byte left code some
    ]

-- a digit more, by bits
pub one_digit_more : (code digit : ℕ) → code < 268435456 → digit < 16
    → bit_or (bit_and code 268435455 * 16 % 4294967296) (bit_and digit 15) ≡ 16 * code + digit
one_digit_more code digit low small =
    let masked : bit_and code 268435455 ≡ code = and_mask code 28 ∙ (omega (arith, low)) in
    let one : bit_and digit 15 ≡ digit = and_mask digit 4 ∙ (omega (arith, small)) in
    let whole : code * 16 % 4294967296 ≡ code * 16 = omega (arith, low) in
    rw (masked, one, whole) (or_shifted code 4 digit small ∙ (omega arith))

few : (code index : ℕ) → code < 16 ^ index → index ≤ 7 → code < 268435456
few code index low le =
    let some : 0 < 16 = omega arith in
    let h : 16 ^ index ≤ 16 ^ 7 = pow-le-pow_right some le in omega (arith, low, h)

more : (code digit index : ℕ) → code < 16 ^ index → digit < 16 → 16 * code + digit < 16 ^ (index + 1)
more code digit index low small = let h = pow-add 16 index 1 in omega (arith, h, low, small)

-- the digits up to a place say this code, and the others are to come
pub record SayUpTo (text : List ℕ) (from count index code : ℕ) : Type 0 where
  pub small : code < 16 ^ index
  pub rest : behind_digits count 0 (drop from text)
      ≡ with_bytes index [] (behind_digits (count - index) code (drop (from + index) text))

pub one_more : (text : List ℕ) (from count index code digit : ℕ) → count ≤ 8 → index < count
    → digit ≡ digit_value (at text (from + index)) → digit < 16 → SayUpTo text from count index code
    → SayUpTo text from count (index + 1)
    (bit_or (bit_and code 268435455 * 16 % 4294967296) (bit_and digit 15))
one_more text from count index code digit most some is small h =
    let bits = one_digit_more code digit (few code index h.small (omega arith)) small in
    let step = digit_at text (from + index) (count - index) code digit (omega arith) is small in
    let left : count - index - 1 ≡ count - (index + 1) = omega arith in
    let place : from + index + 1 ≡ from + (index + 1) = omega arith in
    subst (SayUpTo text from count (index + 1)) (sym bits) (record {
      small = more code digit index h.small small;
      rest = h.rest ∙ ap (with_bytes index []) step ∙ twice index 1 [] [] _
          ∙ ap₂ (λ l p. with_bytes (index + 1) [] (behind_digits l (16 * code + digit) (drop p text))) left place;
    })

pub none_said : (text : List ℕ) (from count index code : ℕ) → index < count → 16 ≤ digit_value (at text (from + index))
    → SayUpTo text from count index code → digits_from text count from ≡ None
none_said text from count index code some other h =
    sym (ap (λ b. if b then coded (character_code 0) (drop from text) else digits_from text count from)
    (some_left count (omega arith)))
    ∙ h.rest ∙ ap (with_bytes index []) (no_digit_at text (from + index) (count - index) code (omega arith) other)

-- all digits
pub all_said : (text : List ℕ) (from count code : ℕ) → 0 < count → SayUpTo text from count count code
    → digits_from text count from ≡ with_bytes count [] (coded (character_code code) (drop (from + count) text))
all_said text from count code some h =
    sym (ap (λ b. if b then coded (character_code 0) (drop from text) else digits_from text count from)
    (some_left count some))
    ∙ h.rest ∙ ap (λ b. with_bytes count [] (if b then coded (character_code code) (drop (from + count) text)
    else double_rest (digits (count - count) code) false nothing_passed (drop (from + count) text)))
    (none_left_now count)
  where
    none_left_now : (n : ℕ) → (n - n == 0) ≡ true
    none_left_now n = grind arith

-- the code of a character, and none
pub is_character : (code : ℕ) → (55296 ≤ code → 57343 < code) → code ≤ 1114111 → character_code code ≡ Some code
is_character code apart low = grind (arith, nat_tests, apart, low)

pub is_surrogate : (code : ℕ) → 55296 ≤ code → code ≤ 57343 → character_code code ≡ None
is_surrogate code low high = rw (le-ltb code 55296 low, lt-leb 57344 code (omega arith)) refl

pub is_past : (code : ℕ) → 1114111 < code → character_code code ≡ None
is_past code low = rw (le-ltb code 55296 (omega arith), lt-leb code 1114111 low) (ap
    (λ b. if b then Some code else None) (and-false _))

-- fewer bytes than digits
too_few_by : (left code c : ℕ) (cs : List ℕ) → 0 < left → (digit_value c < 16) ⊎ (16 ≤ digit_value c)
    → behind_digits (left - 1) (16 * code + digit_value c) cs ≡ None → behind_digits left code (c ∷ cs) ≡ None
too_few_by left code c cs some (inl digit) none_behind =
    digit_by left code c cs (left == 1) some refl digit ∙ ap (with_bytes 1 []) none_behind
too_few_by left code c cs some (inr other) none_behind = no_digit_by left code c cs some other

too_few : (left code : ℕ) (cs : List ℕ) → length cs < left → behind_digits left code cs ≡ None
too_few left code [] less = no_byte left code less
too_few left code (c ∷ cs) less =
    too_few_by left code c cs (omega (arith, less)) (cases_lt (digit_value c) 16)
    (too_few (left - 1) (16 * code + digit_value c) cs (omega (arith, less)))

-- how many digits, by the byte
abbrev count_by : (two four eight : Bool) → ℕ
count_by two four eight = if two then 2 else if four then 4 else if eight then 8 else 0

-- the byte behind a backslash begins digits
digits_by : (c count : ℕ) (cs : List ℕ) (two four eight : Bool) → (c == 120) ≡ two → (c == 117) ≡ four
    → (c == 85) ≡ eight → count ≡ count_by two four eight → 0 < count
    → double_rest backslash false nothing_passed (c ∷ cs)
    ≡ with_bytes 1 [] (double_rest (digits count 0) false nothing_passed cs)
digits_by c count cs true four eight e f g h some =
    subst (λ x. double_rest backslash false nothing_passed (x ∷ cs)
    ≡ with_bytes 1 [] (double_rest (digits count 0) false nothing_passed cs)) (sym (eqb-true c 120 e))
    (ap (λ n. with_bytes 1 [] (double_rest (digits n 0) false nothing_passed cs)) (sym h))
digits_by c count cs false true eight e f g h some =
    subst (λ x. double_rest backslash false nothing_passed (x ∷ cs)
    ≡ with_bytes 1 [] (double_rest (digits count 0) false nothing_passed cs)) (sym (eqb-true c 117 f))
    (ap (λ n. with_bytes 1 [] (double_rest (digits n 0) false nothing_passed cs)) (sym h))
digits_by c count cs false false true e f g h some =
    subst (λ x. double_rest backslash false nothing_passed (x ∷ cs)
    ≡ with_bytes 1 [] (double_rest (digits count 0) false nothing_passed cs)) (sym (eqb-true c 85 g))
    (ap (λ n. with_bytes 1 [] (double_rest (digits n 0) false nothing_passed cs)) (sym h))
digits_by c count cs false false false e f g h some = absurd (omega (arith, h, some))

-- or names a character
letter_by : (c : ℕ) (cs : List ℕ) (two four eight : Bool) → (c == 10) ≡ false → (c == 120) ≡ two → (c == 117) ≡ four
    → (c == 85) ≡ eight → count_by two four eight ≡ 0
    → double_rest backslash false nothing_passed (c ∷ cs)
    ≡ with_character (letter_code c) nothing_passed (double_rest none false nothing_passed cs)
letter_by c cs true four eight feed e f g h = absurd (omega (arith, h))
letter_by c cs false true eight feed e f g h = absurd (omega (arith, h))
letter_by c cs false false true feed e f g h = absurd (omega (arith, h))
letter_by c cs false false false feed e f g h = rw (feed, e, f, g) refl

-- an escape by the byte behind its backslash
behind_backslash : (text : List ℕ) (i : ℕ) → at text i ≡ 92 → i < length text
    → quoted_from text Double i ≡ with_bytes 1 [] (double_rest backslash false nothing_passed (drop (i + 1) text))
behind_backslash text i is here =
    ap (double_rest none false nothing_passed) (drop_more text i 0 here ∙ ap (λ c. c ∷ drop (i + 1) text) is)

next_place : (i : ℕ) → i + 1 + 1 ≡ i + 2
next_place i = omega arith

behind_byte : (text : List ℕ) (i c : ℕ) → at text i ≡ 92 → c ≡ at text (i + 1) → i + 1 < length text
    → quoted_from text Double i ≡ with_bytes 1 [] (double_rest backslash false nothing_passed (c ∷ drop (i + 2) text))
behind_byte text i c is byte here =
    behind_backslash text i is (omega (arith, here))
    ∙ ap (λ cs. with_bytes 1 [] (double_rest backslash false nothing_passed cs))
    (drop_more text (i + 1) 0 here ∙ ap₂ (λ b j. b ∷ drop j text) (sym byte) (next_place i))

with_digits : (text : List ℕ) (i c count : ℕ) → at text i ≡ 92 → c ≡ at text (i + 1) → i + 1 < length text
    → count ≡ digits_of c → 0 < count → quoted_from text Double i ≡ with_bytes 2 [] (digits_from text count (i + 2))
with_digits text i c count is byte here by some =
    behind_byte text i c is byte here
    ∙ ap (with_bytes 1 []) (digits_by c count (drop (i + 2) text) (c == 120) (c == 117)
    (c == 85) refl refl refl by some)
    ∙ twice 1 1 [] [] (digits_from text count (i + 2))

with_letter : (text : List ℕ) (i c : ℕ) → at text i ≡ 92 → c ≡ at text (i + 1) → i + 1 < length text
    → 0 ≡ digits_of c → c ≢ 10 → quoted_from text Double i
    ≡ with_bytes 1 [] (with_character (letter_code c) nothing_passed (quoted_from text Double (i + 2)))
with_letter text i c is byte here by feed =
    behind_byte text i c is byte here
    ∙ ap (with_bytes 1 []) (letter_by c (drop (i + 2) text) (c == 120) (c == 117) (c == 85)
    (ne_eqb c 10 feed) refl refl refl (sym by))

-- what the code finds
pub says_letter : (text : List ℕ) (i c : ℕ) (found : Option ℕ) → at text i ≡ 92 → c ≡ at text (i + 1)
    → i + 1 < length text → 0 ≡ digits_of c → c ≢ 10 → found ≡ letter_code c → IfSome found (λ code. code ≤ 8233)
    → SaysCode text i 0 found
says_letter text i c None is byte here by feed e small =
    with_letter text i c is byte here by feed
    ∙ ap (λ f. with_bytes 1 [] (with_character f nothing_passed (quoted_from text Double (i + 2)))) (sym e)
says_letter text i c (Some code) is byte here by feed e small = (
  omega (arith, small),
  with_letter text i c is byte here by feed
      ∙ ap (λ f. with_bytes 1 [] (with_character f nothing_passed (quoted_from text Double (i + 2)))) (sym e)
      ∙ twice 1 1 [] (encode_utf8 code) (quoted_from text Double (i + 2))
      ∙ ap (λ j. with_bytes 2 (encode_utf8 code) (quoted_from text Double j)) (omega arith),
)

pub says_digits : (text : List ℕ) (i c count : ℕ) (found : Option ℕ) → at text i ≡ 92 → c ≡ at text (i + 1)
    → i + 1 < length text → count ≡ digits_of c → 0 < count → SayCode text count (i + 2) found
    → SaysCode text i count found
says_digits text i c count None is byte here by some h =
    with_digits text i c count is byte here by some ∙ ap (with_bytes 2 []) h
says_digits text i c count (Some code) is byte here by some h = (
  h.0,
  with_digits text i c count is byte here by some ∙ ap (with_bytes 2 []) h.1
      ∙ twice 2 count [] (encode_utf8 code) (quoted_from text Double (i + 2 + count)),
)

-- the text ends amid an escape
ends_amid : (text : List ℕ) (i c count : ℕ) → at text i ≡ 92 → c ≡ at text (i + 1) → i < length text
    → count ≡ digits_of c → length text - i < 2 + count → (length text ≤ i + 1) ⊎ (i + 1 < length text)
    → quoted_from text Double i ≡ None
ends_amid text i c count is byte here by less (inl ends) =
    behind_backslash text i is here
    ∙ ap (λ cs. with_bytes 1 [] (double_rest backslash false nothing_passed cs)) (drop_all (i + 1) text ends)
ends_amid text i c count is byte here by less (inr next) =
    let some : 0 < count = omega (arith, less, next) in
    let long = length-drop (i + 2) text in
    with_digits text i c count is byte next by some
    ∙ ap (with_bytes 2 []) (sym (ap (λ b. if b then coded (character_code 0) (drop (i + 2) text)
    else digits_from text count (i + 2)) (some_left count some))
    ∙ too_few count 0 (drop (i + 2) text) (omega (arith, less, next, long)))

pub ends_early : (text : List ℕ) (i c count : ℕ) → at text i ≡ 92 → c ≡ at text (i + 1) → i < length text
    → count ≡ digits_of c → length text - i < 2 + count → quoted_from text Double i ≡ None
ends_early text i c count is byte here by less =
    ends_amid text i c count is byte here by less (apart (cases_lt (i + 1) (length text)))
  where
    apart : (i + 1 < length text) ⊎ (length text ≤ i + 1) → (length text ≤ i + 1) ⊎ (i + 1 < length text)
    apart (inl h) = inr h
    apart (inr h) = inl h
