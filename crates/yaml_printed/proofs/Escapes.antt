-- What is printed of a character between quotes: printable characters, and at most four bytes for one.
use Rattle.std.proofs.Common.{◌≡◌, ℕ, ◌+◌, ◌/◌, ◌%◌, ◌*◌, ◌<◌, ◌≤◌, Bool, true, false, ◌==◌, ◌&&◌, ◌||◌}
use Rattle.std.proofs.Common.{refl, sym, ap, arith, List, [], ◌∷◌, ◌++◌, inl, inr, length, Option, None, Some}
use Rattle.std.proofs.lemmas.Bool.{and_parts, or_parts, cases_lt, false≢true, ltb-true, lt-ltb, le-ltb}
use Rattle.std.proofs.lemmas.List.{length-append}
use Rattle.std.proofs.lemmas.Str.{encodes-chars, scalars-chars, len_utf8_bounds, length-encode}
use Rattle.std.specs.Fmt.{digit_glyph}
use Rattle.std.specs.List.{flat_map, list_all, list_any}
use Rattle.std.specs.Prelude.{if◌then◌else◌, nat_lt}
use Rattle.std.specs.Str.{IsUtf8, chars}
use lib.Utf8.{encode, encodes, scalar, scalars}
use Rattle.yaml_emit.specs.Characters.{is_break, is_line_text, is_printable}
use Rattle.yaml_emit.specs.PrintedTexts.{code_digits, double_quoted, escape_letter, escaped_character, hex_digits}
use Rattle.yaml_emit.specs.PrintedTexts.{quote_doubled, shown_or_code, single_quoted, single_rest}
use Rattle.yaml_emit.proofs.ByItself.{top_of}
use Rattle.yaml_printed.proofs.Spelling.{Spells, spells_append, spells_byte, spells_none, spells_one}

-- printable characters, so many bytes at most
pub record Short (most : ℕ) (xs : List ℕ) : Type 0 where
  pub spells : Spells is_printable xs
  pub size : length xs ≤ most

pub short_append : {m n : ℕ} {xs ys : List ℕ} → Short m xs → Short n ys → Short (m + n) (xs ++ ys)
short_append {xs = xs} {ys = ys} s t = record {
  spells = spells_append s.spells t.spells;
  size = omega (arith, length-append xs ys, s.size, t.size);
}

pub short_wider : {m n : ℕ} {xs : List ℕ} → m ≤ n → Short m xs → Short n xs
short_wider le s = record { spells = s.spells; size = omega (arith, le, s.size) }

pub short_byte : (c : ℕ) → c < 128 → is_printable c ≡ true → Short 1 (c ∷ [])
short_byte c low h = record { spells = spells_byte c low h; size = omega arith }

-- ---- double quotes

abbrev is_letter : Option ℕ → Bool
is_letter None = true
is_letter (Some letter) = is_printable letter && nat_lt letter 128

letter_if : (b : Bool) (x y : Option ℕ) → is_letter x ≡ true → is_letter y ≡ true
    → is_letter (if b then x else y) ≡ true
letter_if true x y h g = h
letter_if false x y h g = g

letter_is : (c : ℕ) → is_letter (escape_letter c) ≡ true
letter_is c =
    letter_if (c == 0) _ _ refl (letter_if (c == 7) _ _ refl (letter_if (c == 8) _ _ refl (letter_if (c == 9) _ _ refl
    (letter_if (c == 10) _ _ refl (letter_if (c == 11) _ _ refl (letter_if (c == 12) _ _ refl
    (letter_if (c == 13) _ _ refl (letter_if (c == 27) _ _ refl (letter_if (c == 34) _ _ refl
    (letter_if (c == 92) _ _ refl (letter_if (c == 0x85) _ _ refl (letter_if (c == 0x2028) _ _ refl
    (letter_if (c == 0x2029) (Some 80) None refl refl)))))))))))))

digit_low : (d : ℕ) → d < 16 → digit_glyph true d < 128
digit_low d h = grind (arith, h)

digit_shown : (d : ℕ) → d < 16 → is_printable (digit_glyph true d) ≡ true
digit_shown d h = grind (arith, h)

pub hex_short : (b : ℕ) → b < 256 → Short 2 (hex_digits b)
hex_short b h =
    short_append (short_byte (digit_glyph true (b / 16)) (digit_low (b / 16) (omega arith))
    (digit_shown (b / 16) (omega arith)))
    (short_byte (digit_glyph true (b % 16)) (digit_low (b % 16) (omega arith)) (digit_shown (b % 16) (omega arith)))

len_two : (c : ℕ) → 128 ≤ c → 2 ≤ length (encode c)
unfolding encode
len_two c h = elim (cases_lt c 0x800) [
  | inl two ↦ rw (le-ltb c 0x80 h, lt-ltb c 0x800 two) (omega arith)
  | inr most ↦ elim (cases_lt c 0x10000) [
    | inl three ↦ rw (le-ltb c 0x80 h, le-ltb c 0x800 most, lt-ltb c 0x10000 three) (omega arith)
    | inr four ↦ rw (le-ltb c 0x80 h, le-ltb c 0x800 most, le-ltb c 0x10000 four) (omega arith)
  ]
]

len_three : (c : ℕ) → 0x800 ≤ c → 3 ≤ length (encode c)
unfolding encode
len_three c h =
    let more : 0x80 ≤ c = omega (arith, h) in
    elim (cases_lt c 0x10000) [
      | inl three ↦ rw (le-ltb c 0x80 more, le-ltb c 0x800 h, lt-ltb c 0x10000 three) (omega arith)
      | inr four ↦ rw (le-ltb c 0x80 more, le-ltb c 0x800 h, le-ltb c 0x10000 four) (omega arith)
    ]

pub len_one : (c : ℕ) → 1 ≤ length (encode c)
len_one c = omega (arith, length-encode c, len_utf8_bounds c)

code_short : (c : ℕ) → c < 0x110000 → Short (4 * length (encode c)) (92 ∷ code_digits c)
code_short c top = elim (cases_lt c 0x100) [
  | inl small ↦ rw (lt-ltb c 0x100 small) (short_wider (omega (arith, len_one c))
      (short_append (short_byte 92 (omega arith) refl) (short_append (short_byte 120 (omega arith) refl)
      (hex_short c small))))
  | inr more ↦ elim (cases_lt c 0x10000) [
    | inl middle ↦ rw (le-ltb c 0x100 more, lt-ltb c 0x10000 middle) (short_wider
        (omega (arith, len_two c (omega (arith, more))))
        (short_append (short_byte 92 (omega arith) refl) (short_append (short_byte 117 (omega arith) refl)
        (short_append (hex_short (c / 0x100) (omega arith)) (hex_short (c % 0x100) (omega arith))))))
    | inr large ↦ rw (le-ltb c 0x100 more, le-ltb c 0x10000 large) (short_wider
        (omega (arith, len_three c (omega (arith, large))))
        (short_append (short_byte 92 (omega arith) refl) (short_append (short_byte 85 (omega arith) refl)
        (short_append (short_byte 48 (omega arith) refl) (short_append (short_byte 48 (omega arith) refl)
        (short_append (hex_short (c / 0x10000 % 0x100) (omega arith)) (short_append
        (hex_short (c / 0x100 % 0x100) (omega arith))
        (hex_short (c % 0x100) (omega arith)))))))))
  ]
]

itself : (c : ℕ) → scalar c ≡ true → is_printable c ≡ true → Short (4 * length (encode c)) (encode c)
itself c s h = record { spells = spells_one c s h; size = omega arith }

shown_short : (c : ℕ) → scalar c ≡ true → (o : Option ℕ) → is_letter o ≡ true
    → Short (4 * length (encode c)) (shown_or_code c o)
shown_short c s (Some letter) h =
    let p = and_parts (is_printable letter) (nat_lt letter 128) h in
    short_wider (omega (arith, len_one c))
    (short_append (short_byte 92 (omega arith) refl) (short_byte letter (ltb-true letter 128 p.1) p.0))
shown_short c s None h = either (is_printable c) refl
  where
    either : (b : Bool) → is_printable c ≡ b → Short (4 * length (encode c))
        (if b then encode c else 92 ∷ code_digits c)
    either true e = itself c s e
    either false e = code_short c (omega (arith, top_of c s))

escapes_short : (cs : List ℕ) → scalars cs ≡ true → Short (4 * length (encodes cs)) (flat_map escaped_character cs)
escapes_short [] h = record { spells = spells_none; size = omega arith }
escapes_short (c ∷ cs) h =
    let p = and_parts (scalar c) (scalars cs) h in
    short_wider (omega (arith, length-append (encode c) (encodes cs)))
    (short_append (shown_short c p.0 (escape_letter c) (letter_is c)) (escapes_short cs p.1))

pub double_short : (t : List ℕ) → IsUtf8 t → Short (4 * length t + 2) (double_quoted t)
double_short t u =
    let same = ap length (encodes-chars t u) in
    short_wider (omega (arith, same)) (short_append (short_byte 34 (omega arith) refl)
    (short_append (escapes_short (chars t) (scalars-chars t u)) (short_byte 34 (omega arith) refl)))

-- ---- single quotes in one line

doubled_short : (c : ℕ) → scalar c ≡ true → is_printable c ≡ true → Short (4 * length (encode c)) (quote_doubled c)
doubled_short c s h = either (c == 39)
  where
    either : (b : Bool) → Short (4 * length (encode c)) (if b then 39 ∷ 39 ∷ [] else encode c)
    either true =
        short_wider (omega (arith, len_one c)) (short_append (short_byte 39 (omega arith) refl)
        (short_byte 39 (omega arith) refl))
    either false = itself c s h

-- a character of a line that ends none is printable
line_printable : (c : ℕ) → is_line_text c ≡ true → is_break c ≡ false → is_printable c ≡ true
line_printable c h calm =
    either (c == 10) (is_printable c) h (or_parts (c == 10) (c == 13) (or_parts (c == 10 || c == 13) (c == 0x85)
    (or_parts (c == 10 || c == 13 || c == 0x85) (c == 0x2028) (or_parts (c == 10 || c == 13 || c == 0x85 || c == 0x2028)
    (c == 0x2029) calm).0).0).0).0
  where
    either : (x y : Bool) → (x || y) ≡ true → x ≡ false → y ≡ true
    either true y h e = absurd (false≢true (sym e))
    either false y h e = h

single_short_all : (indent : ℕ) (cs : List ℕ) → scalars cs ≡ true → list_all is_line_text cs ≡ true
    → list_any is_break cs ≡ false
    → Short (4 * length (encodes cs)) (single_rest indent false cs)
single_short_all indent [] s h calm = record { spells = spells_none; size = omega arith }
single_short_all indent (c ∷ cs) s h calm =
    let p = and_parts (scalar c) (scalars cs) s in
    let q = and_parts (is_line_text c) (list_all is_line_text cs) h in
    let r = or_parts (is_break c) (list_any is_break cs) calm in
    let feed : (c == 10) ≡ false = (or_parts (c == 10) (c == 13) (or_parts (c == 10 || c == 13) (c == 0x85)
    (or_parts (c == 10 || c == 13 || c == 0x85) (c == 0x2028) (or_parts (c == 10 || c == 13 || c == 0x85 || c == 0x2028)
    (c == 0x2029) r.0).0).0).0).0 in
    rw feed (short_wider (omega (arith, length-append (encode c) (encodes cs)))
    (short_append (doubled_short c p.0 (line_printable c q.0 r.0)) (single_short_all indent cs p.1 q.1 r.1)))

pub single_short : (indent : ℕ) (t : List ℕ) → IsUtf8 t → list_all is_line_text (chars t) ≡ true
    → list_any is_break (chars t) ≡ false
    → Short (4 * length t + 2) (single_quoted indent t)
single_short indent t u h calm =
    let same = ap length (encodes-chars t u) in
    short_wider (omega (arith, same)) (short_append (short_byte 39 (omega arith) refl)
    (short_append (single_short_all indent (chars t) (scalars-chars t u) h calm) (short_byte 39 (omega arith) refl)))
