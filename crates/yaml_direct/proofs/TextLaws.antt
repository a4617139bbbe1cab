-- Which bytes stand in a text of the grammar's characters.
use lib.Utf8.{encode, encodes}
use Rattle.std.proofs.Common.{ℕ, ◌+◌, ◌-◌, ◌≡◌, ◌≢◌, ◌<◌, ◌≤◌, ◌==◌, ◌&&◌, ◌||◌, Bool, true, false, List, [], ◌∷◌}
use Rattle.std.proofs.Common.{length, refl, sym, subst, ap, ◌∙◌, arith, inl, inr, get_or, drop, nat_le}
use Rattle.std.specs.List.{list_all}
use Rattle.std.specs.Str.{chars}
use Rattle.std.proofs.lemmas.Bool.{and_parts, cases_lt, eq-eqb, eqb-true, false_from_ne_true, false≢true}
use Rattle.std.proofs.lemmas.List.{get_or-append_right, get_or-drop, get_or_past, length-append}
use Rattle.std.proofs.lemmas.Str.{IsUtf8-from_is_utf8, encodes-chars, inside_one}
use Rattle.yaml_base.specs.Places.{has_order_mark}
use Rattle.yaml_direct.specs.Bytes as code
use Rattle.yaml_direct.specs.Gaps.{is_apart}
use Rattle.yaml_grammar.specs.Bytes.{at, is_bracket, is_character, is_gap, is_mark, is_text, is_triple}

ascii_in : (cs : List ℕ) (k : ℕ) → list_all is_character cs ≡ true → k < length (encodes cs)
    → get_or (encodes cs) k 0 < 128 → is_character (get_or (encodes cs) k 0) ≡ true
ascii_in [] k all inside low = absurd (omega (arith, inside))
ascii_in (c ∷ cs) k all inside low =
    let both = and_parts (is_character c) _ all in
    elim (cases_lt k (length (encode c))) [
      | inl here ↦ ap is_character (sym (inside_one c (encodes cs) (encodes (c ∷ cs)) k refl here low)) ∙ both.0
      | inr behind ↦
          let there = get_or-append_right (encode c) (encodes cs) (length (encode c)) k 0 refl behind in
          let size = length-append (encode c) (encodes cs) in
          ap is_character there
          ∙ ascii_in cs (k - length (encode c)) both.1 (omega (arith, inside, behind, size))
          (subst (λ x. x < 128) there low)
    ]

-- a byte of ASCII is a character
pub ascii_is : (text : List ℕ) (i : ℕ) → is_text text ≡ true → i < length text → at text i < 128
    → is_character (at text i) ≡ true
ascii_is text i h inside low =
    let both = and_parts _ _ h in
    let same = encodes-chars text (IsUtf8-from_is_utf8 text both.0) in
    subst (λ t. i < length t → get_or t i 0 < 128 → is_character (get_or t i 0) ≡ true) same
    (ascii_in (chars text) i both.1) inside low

low_character : (c : ℕ) → is_character c ≡ true → c < 32 → (c ≢ 9) → (c ≡ 10)
low_character c h low tab = grind (arith, h, low, tab)

pub behind_text : (text : List ℕ) (i : ℕ) → length text ≤ i → at text i ≡ 0
behind_text text i le = get_or_past text i 0 le

-- a byte below the space is a tab or a line feed, or none
pub low_byte : (text : List ℕ) (i : ℕ) → is_text text ≡ true → at text i < 32 → at text i ≢ 9 → at text i ≢ 10
    → length text ≤ i
low_byte text i h low tab feed =
    elim (cases_lt i (length text)) [
      | inl inside ↦ absurd (feed (low_character (at text i) (ascii_is text i h inside (omega (arith, low))) low tab))
      | inr behind ↦ behind
    ]

pub no_return : (text : List ℕ) (i : ℕ) → is_text text ≡ true → at text i ≢ 13
no_return text i h e =
    let over : length text ≤ i = low_byte text i h (omega (arith, e)) (omega (arith, e)) (omega (arith, e)) in
    omega (arith, e, behind_text text i over)

-- a byte below the space that is none of these is 0
pub zero_byte : (text : List ℕ) (i : ℕ) → is_text text ≡ true → at text i < 32 → at text i ≢ 9 → at text i ≢ 10
    → at text i ≡ 0
zero_byte text i h low tab feed = behind_text text i (low_byte text i h low tab feed)

pub zero_is_end : (text : List ℕ) (i : ℕ) → is_text text ≡ true → at text i ≡ 0 → length text ≤ i
zero_is_end text i h e = low_byte text i h (omega (arith, e)) (omega (arith, e)) (omega (arith, e))

same_bool : (a b : Bool) → (a ≡ true → b ≡ true) → (b ≡ true → a ≡ true) → a ≡ b
same_bool true b f g = sym (f refl)
same_bool false true f g = g refl
same_bool false false f g = refl

gap_low : (c : ℕ) → is_gap c ≡ true → nat_le c 32 ≡ true
gap_low c h = grind (arith, h)

low_gap : (c : ℕ) → nat_le c 32 ≡ true → (c < 32 → c ≢ 9 → c ≢ 10 → c ≡ 0) → is_gap c ≡ true
low_gap c h zero = grind (arith, h, zero)

-- a gap is one for both
pub gap_same : (text : List ℕ) (i : ℕ) → is_text text ≡ true → code.is_gap text i ≡ is_gap (at text i)
gap_same text i h =
    same_bool (code.is_gap text i) (is_gap (at text i)) (λ e. low_gap (at text i) e (zero_byte text i h))
    (gap_low (at text i))

pub bracket_same : (c : ℕ) → code.is_bracket c ≡ is_bracket c
bracket_same c = grind arith

mark_text : (rest : List ℕ) → list_all is_character (chars (0xEF ∷ 0xBB ∷ 0xBF ∷ rest)) ≡ false
unfolding chars
mark_text [] = refl
mark_text (b ∷ bs) = refl

is_marked : (text : List ℕ) → (at text 0 == 0xEF && (at text 1 == 0xBB && at text 2 == 0xBF)) ≡ true
    → list_all is_character (chars text) ≡ false
is_marked [] h = absurd (false≢true h)
is_marked (a ∷ []) h = absurd (false≢true (and_parts (a == 0xEF) false h).1)
is_marked (a ∷ b ∷ []) h = absurd (false≢true (and_parts (b == 0xBB) false (and_parts (a == 0xEF) _ h).1).1)
is_marked (a ∷ b ∷ c ∷ rest) h =
    let first = and_parts (a == 0xEF) _ h in
    let second = and_parts (b == 0xBB) _ first.1 in
    rw (eqb-true a 0xEF first.0, eqb-true b 0xBB second.0, eqb-true c 0xBF second.1) (mark_text rest)

-- no mark of the order of bytes begins it
pub no_order_mark : (text : List ℕ) → is_text text ≡ true → has_order_mark text ≡ false
no_order_mark text h = false_from_ne_true (has_order_mark text)
    (λ e. false≢true (sym (is_marked text e) ∙ (and_parts _ _ h).1))

or_false : (x : Bool) → (x || false) ≡ x
or_false true = refl
or_false false = refl

and_false : (x : Bool) → (x && false) ≡ false
and_false true = refl
and_false false = refl

-- a comment may begin for both
pub apart_same : (text : List ℕ) (i : ℕ) → is_text text ≡ true
    → is_apart text i ≡ (i == 0 || (at text (i - 1) == 32 || at text (i - 1) == 10))
apart_same text i h =
    let near = at text (i - 1) == 32 || at text (i - 1) == 10 in
    ap (λ m. i == 0 || (near || (i == 3 && m))) (no_order_mark text h)
    ∙ ap (λ x. i == 0 || (near || x)) (and_false (i == 3))
    ∙ ap (λ x. i == 0 || x) (or_false near)

-- a mark is one for both
pub mark_same : (text : List ℕ) (c i : ℕ) → is_text text ≡ true
    → (at text i == c && code.is_gap text (i + 1)) ≡ is_mark text c i
mark_same text c i h = ap (λ x. at text i == c && x) (gap_same text (i + 1) h)

at_rest : (text : List ℕ) (i k : ℕ) → at (drop i text) k ≡ at text (i + k)
at_rest text i k = get_or-drop i text k 0

at_first : (text : List ℕ) (i : ℕ) → at (drop i text) 0 ≡ at text i
at_first text i = at_rest text i 0 ∙ ap (at text) (omega arith)

-- three of a byte are so for both
pub triple_same : (text : List ℕ) (c i : ℕ) → is_text text ≡ true
    → (at text i == c && (at text (i + 1) == c && (at text (i + 2) == c && code.is_gap text (i + 3)))) ≡ is_triple c (drop i text)
triple_same text c i h =
    ap (λ x. at text i == c && (at text (i + 1) == c && (at text (i + 2) == c && x))) (gap_same text (i + 3) h)
    ∙ sym (ap (λ b. b == c && (at (drop i text) 1 == c && (at (drop i text) 2 == c && is_gap (at (drop i text) 3)))) (at_first text i)
    ∙ ap (λ b. at text i == c && (b == c && (at (drop i text) 2 == c && is_gap (at (drop i text) 3)))) (at_rest text i 1)
    ∙ ap (λ b. at text i == c && (at text (i + 1) == c && (b == c && is_gap (at (drop i text) 3)))) (at_rest text i 2)
    ∙ ap (λ b. at text i == c && (at text (i + 1) == c && (at text (i + 2) == c && is_gap b))) (at_rest text i 3))

-- the byte is there, and so a gap behind it makes it a mark
pub mark_is : (text : List ℕ) (c i : ℕ) (g : Bool) → is_text text ≡ true → at text i ≡ c
    → g ≡ code.is_gap text (i + 1) → g ≡ is_mark text c i
mark_is text c i g h e f =
    f ∙ ap (λ x. x && code.is_gap text (i + 1)) (sym (eq-eqb (at text i) c e)) ∙ mark_same text c i h

pub triple_is : (text : List ℕ) (c i : ℕ) (g : Bool) → is_text text ≡ true → at text i ≡ c → at text (i + 1) ≡ c
    → at text (i + 2) ≡ c → g ≡ code.is_gap text (i + 3) → g ≡ is_triple c (drop i text)
triple_is text c i g h first second third f =
    f ∙ ap (λ x. x && code.is_gap text (i + 3)) (sym (eq-eqb (at text (i + 2)) c third))
    ∙ ap (λ x. x && (at text (i + 2) == c && code.is_gap text (i + 3))) (sym (eq-eqb (at text (i + 1)) c second))
    ∙ ap (λ x. x && (at text (i + 1) == c && (at text (i + 2) == c && code.is_gap text (i + 3))))
    (sym (eq-eqb (at text i) c first))
    ∙ triple_same text c i h
