-- The bytes of what is printed of a tag.
use Rattle.std.proofs.Common.{◌≡◌, ℕ, zero, suc, ◌+◌, ◌*◌, ◌<◌, ◌≤◌, Bool, true, false, ◌==◌, ◌||◌}
use Rattle.std.proofs.Common.{refl, ap, ◌∙◌, arith, List, [], ◌∷◌, ◌++◌, length, drop, get_or, Some}
use Rattle.std.proofs.Common.{nat_lt, nat_le, codes}
use Rattle.std.proofs.lemmas.Bool.{and_parts, eqb-true, le-leb, leb-true, lt-ltb, ltb-true, or_parts}
use Rattle.std.specs.Int.{is_in_range}
use Rattle.std.specs.Fmt.{digit_glyph}
use Rattle.std.specs.List.{flat_map, list_all, list_any}
use Rattle.std.specs.Prelude.{if◌then◌else◌}
use Rattle.std.specs.Str.{IsUtf8, chars}
use Rattle.std.specs.Char.{digit_value}
use Rattle.yaml_grammar.specs.Bytes.{is_one_of}
use Rattle.yaml_emit.specs.Characters.{is_from, is_printable}
use Rattle.yaml_emit.specs.PrintedTexts.{hex_digits}
use Rattle.yaml_emit.specs.Tags.{closing, handle_of, is_tag_byte, handle_len, opening, printed_tag, suffix_of, tag_byte}
use Rattle.yaml_emit.specs.Tags.{tag_len}
use Rattle.yaml_emit.specs.declared.tag.Handle.{Handle}
use Rattle.yaml_emit.specs.declared.tag.Handle.TheVariants.{Local, Core, Verbatim}
use Rattle.yaml_grammar.specs.Names.{is_name_byte}
use Rattle.yaml_grammar.proofs.LineLaws.{IsWord}
use Rattle.yaml_printed.specs.Printable.{IsTag, a_tag}
use Rattle.yaml_printed.proofs.Escapes.{Short, hex_short, short_append, short_byte, short_wider}
use Rattle.yaml_printed.proofs.ByteLaws.{text_all}
use Rattle.yaml_printed.proofs.Spelling.{spells_none}

-- what may stand behind a tag: the end of its line, or a space and then a word
pub data BehindTag : List ℕ → Type 0 where
  a_line : {xs : List ℕ} → BehindTag (10 ∷ xs)
  a_word : {c : ℕ} {cs : List ℕ} → IsWord c → BehindTag (32 ∷ c ∷ cs)

-- ---- its beginning

pub tag_begins : (t : List ℕ) → (rest : List ℕ) × (printed_tag t ≡ 33 ∷ rest)
tag_begins t = by (handle_of t)
  where
    by : (h : Handle) → (rest : List ℕ) × (opening h ++ (flat_map tag_byte (suffix_of h t) ++ closing h) ≡ 33 ∷ rest)
    by Local = (flat_map tag_byte (suffix_of Local t) ++ closing Local, refl)
    by Core = (33 ∷ (flat_map tag_byte (suffix_of Core t) ++ closing Core), refl)
    by Verbatim = (60 ∷ (flat_map tag_byte (suffix_of Verbatim t) ++ closing Verbatim), refl)

-- ---- its bytes

abbrev pub is_byte : ℕ → Bool
is_byte b = nat_lt b 256

pub text_bytes : (t : List ℕ) → IsUtf8 t → list_all is_byte t ≡ true
text_bytes t u =
    text_all is_byte (λ b high low. lt-ltb b 256 low) (λ c. true) (λ c h low. lt-ltb c 256 (omega arith)) t u
    (all_true (chars t))
  where
    all_true : (cs : List ℕ) → list_all (λ c. true) cs ≡ true
    all_true [] = refl
    all_true (c ∷ cs) = all_true cs

pub all_drop : (p : ℕ → Bool) (n : ℕ) (xs : List ℕ) → list_all p xs ≡ true → list_all p (drop n xs) ≡ true
all_drop p zero xs h = h
all_drop p (suc n) [] h = h
all_drop p (suc n) (x ∷ xs) h = all_drop p n xs (and_parts (p x) (list_all p xs) h).1

pub none_drop : (p : ℕ → Bool) (n : ℕ) (xs : List ℕ) → list_any p xs ≡ false → list_any p (drop n xs) ≡ false
none_drop p zero xs h = h
none_drop p (suc n) [] h = h
none_drop p (suc n) (x ∷ xs) h = none_drop p n xs (or_parts (p x) (list_any p xs) h).1

tag_low : (c : ℕ) → is_tag_byte c ≡ true → c < 127
tag_low c h = grind (arith, h)

abbrev pub is_read : ℕ → Bool
is_read c = is_name_byte c || is_one_of (codes ";/?:@&=+$.~*'()%") c

or_step : (x y g : Bool) → (x ≡ true → g ≡ true) → (y ≡ true → g ≡ true) → (x || y) ≡ true → g ≡ true
or_step true y g h k e = h refl
or_step false y g h k e = k e

all_at : (p : ℕ → Bool) (xs : List ℕ) (d i : ℕ) → list_all p xs ≡ true → p d ≡ true → p (get_or xs i d) ≡ true
all_at p [] d i h e = e
all_at p (x ∷ xs) d zero h e = (and_parts (p x) (list_all p xs) h).0
all_at p (x ∷ xs) d (suc i) h e = all_at p xs d i (and_parts (p x) (list_all p xs) h).1 e

-- what holds of letters, of digits and of each other byte of a tag holds of all its bytes
module _ (p : ℕ → Bool) (small : (c : ℕ) → is_from 97 122 c ≡ true → p c ≡ true)
    (large : (c : ℕ) → is_from 65 90 c ≡ true → p c ≡ true) (digit : (c : ℕ) → is_from 48 57 c ≡ true → p c ≡ true)
    (each : list_all p (codes "-_.~*'();/?:@&=+$") ≡ true) where
  other : (c i : ℕ) → (c == get_or (codes "-_.~*'();/?:@&=+$") i 45) ≡ true → p c ≡ true
  other c i e =
      ap p (eqb-true c (get_or (codes "-_.~*'();/?:@&=+$") i 45) e)
      ∙ all_at p (codes "-_.~*'();/?:@&=+$") 45 i each (and_parts (p 45) _ each).0

  tag_case : (c : ℕ) → is_tag_byte c ≡ true → p c ≡ true
  tag_case c =
      or_step _ _ (p c) (or_step _ _ (p c) (or_step _ _ (p c) (or_step _ _ (p c) (or_step _ _ (p c) (or_step _ _ (p c)
      (or_step _ _ (p c) (or_step _ _ (p c) (or_step _ _ (p c) (or_step _ _ (p c) (or_step _ _ (p c) (or_step _ _ (p c)
      (or_step _ _ (p c) (or_step _ _ (p c) (or_step _ _ (p c) (or_step _ _ (p c) (or_step _ _ (p c) (or_step _ _ (p c)
      (or_step _ _ (p c) (small c) (large c)) (digit c)) (other c 0)) (other c 1)) (other c 2)) (other c 3))
      (other c 4))
      (other c 5)) (other c 6)) (other c 7)) (other c 8)) (other c 9)) (other c 10)) (other c 11)) (other c 12))
      (other c 13)) (other c 14)) (other c 15)) (other c 16)

shown_from : (low high c : ℕ) → 32 ≤ low → high < 127 → is_from low high c ≡ true → is_printable c ≡ true
shown_from low high c l h e =
    let p = and_parts (nat_le low c) (nat_le c high) e in
    rw (le-leb 32 c (omega (arith, leb-true low c p.0)), le-leb c 126 (omega (arith, leb-true c high p.1))) refl

tag_shown : (c : ℕ) → is_tag_byte c ≡ true → is_printable c ≡ true
tag_shown =
    tag_case is_printable (λ c. shown_from 97 122 c (omega arith) (omega arith))
    (λ c. shown_from 65 90 c (omega arith) (omega arith))
    (λ c. shown_from 48 57 c (omega arith) (omega arith)) refl

first_read : (x y z a b : Bool) → z ≡ true → (((x || y) || z) || a || b) ≡ true
first_read true y z a b h = refl
first_read false true z a b h = refl
first_read false false z a b h = rw h refl

second_read : (x y z a b : Bool) → y ≡ true → (((x || y) || z) || a || b) ≡ true
second_read true y z a b h = refl
second_read false y z a b h = rw h refl

third_read : (x y z a b : Bool) → x ≡ true → (((x || y) || z) || a || b) ≡ true
third_read x y z a b h = rw h refl

pub tag_read : (c : ℕ) → is_tag_byte c ≡ true → is_read c ≡ true
tag_read =
    tag_case is_read
    (λ c. first_read (is_in_range 48 57 c) (is_in_range 65 90 c) (is_in_range 97 122 c) (c == 45 || c == 95) _)
    (λ c. second_read (is_in_range 48 57 c) (is_in_range 65 90 c) (is_in_range 97 122 c) (c == 45 || c == 95) _)
    (λ c. third_read (is_in_range 48 57 c) (is_in_range 65 90 c) (is_in_range 97 122 c) (c == 45 || c == 95) _) refl

pub tag_no_percent : (c : ℕ) → is_tag_byte c ≡ true → (c == 37) ≡ false
tag_no_percent c h = grind (arith, h)

pub digit_read : (d : ℕ) → d < 16 → is_name_byte (digit_glyph true d) ≡ true
digit_read d h = grind (arith, h)

pub digit_is : (d : ℕ) → d < 16 → digit_value (digit_glyph true d) ≡ d
digit_is d h = grind arith

byte_short : (c : ℕ) → c < 256 → Short 3 (tag_byte c)
byte_short c h = either (is_tag_byte c) refl
  where
    either : (b : Bool) → is_tag_byte c ≡ b → Short 3 (if b then c ∷ [] else 37 ∷ hex_digits c)
    either true e = short_wider (omega arith) (short_byte c (omega (arith, tag_low c e)) (tag_shown c e))
    either false e = short_append (short_byte 37 (omega arith) refl) (hex_short c h)

short_none : Short 0 []
short_none = record { spells = spells_none; size = omega arith }

body_short : (xs : List ℕ) → list_all is_byte xs ≡ true → Short (3 * length xs) (flat_map tag_byte xs)
body_short [] h = short_none
body_short (x ∷ xs) h =
    let p = and_parts (is_byte x) (list_all is_byte xs) h in
    short_wider (omega arith) (short_append (byte_short x (ltb-true x 256 p.0)) (body_short xs p.1))

short_by : (h : Handle) (t : List ℕ) → list_all is_byte t ≡ true
    → Short (3 * (handle_len h + length (suffix_of h t)) + 3) (opening h
    ++ (flat_map tag_byte (suffix_of h t) ++ closing h))
short_by Local t h =
    short_wider (omega arith) (short_append (short_byte 33 (omega arith) refl)
    (short_append (body_short (drop 1 t) (all_drop is_byte 1 t h)) (short_none)))
short_by Core t h =
    short_wider (omega arith) (short_append (short_byte 33 (omega arith) refl)
    (short_append (short_byte 33 (omega arith) refl)
    (short_append (body_short (drop 18 t) (all_drop is_byte 18 t h)) (short_none))))
short_by Verbatim t h =
    short_wider (omega arith) (short_append (short_byte 33 (omega arith) refl)
    (short_append (short_byte 60 (omega arith) refl)
    (short_append (body_short t h) (short_byte 62 (omega arith) refl))))

pub tag_short : (t : List ℕ) → IsTag (Some t) → Short (3 * tag_len t + 3) (printed_tag t)
tag_short _ (a_tag {c = c} {cs = cs} u z) = short_by (handle_of (c ∷ cs)) (c ∷ cs) (text_bytes (c ∷ cs) u)
