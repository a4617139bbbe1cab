-- What is printed between double quotes is read as the text.
use Rattle.std.proofs.Common.{◌≡◌, ℕ, ◌+◌, ◌-◌, ◌*◌, ◌/◌, ◌%◌, ◌<◌, ◌≤◌, false, true, ◌==◌, List, [], ◌∷◌, ◌++◌}
use Rattle.std.proofs.Common.{Some, None, inl, inr, ◌⊎◌, refl, sym, ap, ◌∙◌, subst, arith}
use Rattle.std.proofs.lemmas.Bool.{cases_eq, cases_lt, cases_Bool, and_parts, ne_eqb, le-ltb, lt-ltb, le-leb}
use Rattle.std.proofs.lemmas.Str.{encodes-chars, scalars-chars}
use Rattle.std.specs.Char.{digit_value}
use Rattle.std.specs.Fmt.{digit_glyph}
use Rattle.std.specs.List.{flat_map}
use Rattle.std.specs.Str.{IsUtf8, chars}
use lib.Utf8.{encode, encodes, scalar, scalars, scalar_cases}
use Rattle.yaml_base.specs.LineBreaks.{begins_with_break}
use Rattle.yaml_base.specs.QuotedLines.{unescaped_behind, unescaped, before, none, digits, character_code}
use Rattle.yaml_base.specs.QuotedLines.{character_before}
use Rattle.yaml_emit.specs.Characters.{is_printable}
use Rattle.yaml_emit.specs.PrintedTexts.{hex_digits, code_digits, escape_letter, escaped_character}
use Rattle.yaml_emit.proofs.ByItself.{EndsNoLine, shown, top_of}

-- ---- bytes between double quotes

abbrev IsPlainInDouble : ℕ → Type 0
IsPlainInDouble b = (b ≡ 92 → ⊥) × (b ≡ 34 → ⊥)

as_it_is_in_double : (b : ℕ) (t : List ℕ) → IsPlainInDouble b → begins_with_break (b ∷ t) ≡ false
    → unescaped_behind none (b ∷ t) ≡ before (b ∷ []) (unescaped_behind none t)
as_it_is_in_double b t plain alone = rw (ne_eqb b 92 plain.0, ne_eqb b 34 plain.1, alone) refl

-- a character that has no letter
record Unnamed (c : ℕ) : Type 0 where
  letter : escape_letter c ≡ None
  plain : IsPlainInDouble c
  ends : EndsNoLine c

-- ---- codes by their digits

digit : (d : ℕ) → d < 16 → digit_value (digit_glyph true d) ≡ d
digit d h = grind arith

code_of : (c : ℕ) → scalar c ≡ true → character_code c ≡ Some c
code_of c h = elim (scalar_cases c h) [
  | inl low ↦ rw (lt-ltb c 0xD800 low) refl
  | inr high ↦
      let least = le-ltb c 0xD800 (omega (arith, high.0)) in
      let most = le-leb c 0x10FFFF (omega (arith, high.1)) in
      rw (least, le-leb 0xE000 c high.0, most) refl
]

-- a digit that is not the last
digit_more : (left code d : ℕ) (t : List ℕ) → d < 16 → (left == 1) ≡ false
    → unescaped_behind (digits left code) (digit_glyph true d ∷ t)
    ≡ unescaped_behind (digits (left - 1) (16 * code + d)) t
digit_more left code d t h more = rw (digit d h, lt-ltb d 16 h, more) refl

-- the last digit
digit_last : (code d : ℕ) (t : List ℕ) → d < 16
    → unescaped_behind (digits 1 code) (digit_glyph true d ∷ t)
    ≡ character_before (character_code (16 * code + d)) (unescaped_behind none t)
digit_last code d t h = rw (digit d h, lt-ltb d 16 h) refl

-- the two digits of a byte, which are not the last
byte_more : (left code b : ℕ) (t : List ℕ) → b < 256 → (left == 1) ≡ false → (left - 1 == 1) ≡ false
    → unescaped_behind (digits left code) (hex_digits b ++ t)
    ≡ unescaped_behind (digits (left - 1 - 1) (256 * code + b)) t
byte_more left code b t h one two =
    let value : 16 * (16 * code + b / 16) + b % 16 ≡ 256 * code + b = omega arith in
    digit_more left code (b / 16) (digit_glyph true (b % 16) ∷ t) (omega arith) one
    ∙ digit_more (left - 1) (16 * code + b / 16) (b % 16) t (omega arith) two
    ∙ ap (λ n. unescaped_behind (digits (left - 1 - 1) n) t) value

-- the two digits of the last byte
byte_last : (code b : ℕ) (t : List ℕ) → b < 256
    → unescaped_behind (digits 2 code) (hex_digits b ++ t)
    ≡ character_before (character_code (256 * code + b)) (unescaped_behind none t)
byte_last code b t h =
    let value : 16 * (16 * code + b / 16) + b % 16 ≡ 256 * code + b = omega arith in
    digit_more 2 code (b / 16) (digit_glyph true (b % 16) ∷ t) (omega arith) refl
    ∙ digit_last (16 * code + b / 16) (b % 16) t (omega arith)
    ∙ ap (λ n. character_before (character_code n) (unescaped_behind none t)) value

-- a character by its code
coded : (c : ℕ) (t : List ℕ) → scalar c ≡ true
    → unescaped_behind none ((92 ∷ code_digits c) ++ t) ≡ before (encode c) (unescaped_behind none t)
coded c t h =
    let is : (n : ℕ) → n ≡ c
    → character_before (character_code n) (unescaped_behind none t) ≡ before (encode c) (unescaped_behind none t)
    = λ n e. ap (λ m. character_before (character_code m) (unescaped_behind none t)) e
    ∙ ap (λ o. character_before o (unescaped_behind none t)) (code_of c h) in
    elim (cases_lt c 0x100) [
      | inl two ↦ rw (lt-ltb c 0x100 two) (byte_last 0 c t two ∙ is (256 * 0 + c) (omega arith))
      | inr more ↦ elim (cases_lt c 0x10000) [
        | inl four ↦ rw (le-ltb c 0x100 more, lt-ltb c 0x10000 four) (
            byte_more 4 0 (c / 0x100) (hex_digits (c % 0x100) ++ t) (omega arith) refl refl
            ∙ byte_last (256 * 0 + c / 0x100) (c % 0x100) t (omega arith)
            ∙ is (256 * (256 * 0 + c / 0x100) + c % 0x100) (omega arith))
        | inr eight ↦
            let top : c ≤ 0x10FFFF = top_of c h in
            let high = 256 * (256 * 0 + 0) + c / 0x10000 % 0x100 in
            let middle = 256 * high + c / 0x100 % 0x100 in
            rw (le-ltb c 0x100 more, le-ltb c 0x10000 eight) (
            byte_more 8 0 0 (hex_digits (c / 0x10000 % 0x100)
            ++ (hex_digits (c / 0x100 % 0x100) ++ (hex_digits (c % 0x100) ++ t))) (omega arith) refl refl
            ∙ byte_more 6 (256 * 0 + 0) (c / 0x10000 % 0x100)
            (hex_digits (c / 0x100 % 0x100) ++ (hex_digits (c % 0x100) ++ t)) (omega arith) refl refl
            ∙ byte_more 4 high (c / 0x100 % 0x100) (hex_digits (c % 0x100) ++ t) (omega arith) refl refl
            ∙ byte_last middle (c % 0x100) t (omega arith) ∙ is (256 * middle + c % 0x100) (omega arith))
      ]
    ]

-- ---- each character

-- what is printed of a character is read as that character
abbrev Passes : ℕ → Type 0
Passes c = (t : List ℕ) → unescaped_behind none (escaped_character c ++ t) ≡ before (encode c) (unescaped_behind none t)

passes_unnamed : (c : ℕ) → scalar c ≡ true → Unnamed c → Passes c
passes_unnamed c h u t = rw u.letter (elim (cases_Bool (is_printable c)) [
  | inl yes_it_is ↦ rw yes_it_is
      (shown (unescaped_behind none) IsPlainInDouble (λ b far. ((λ e. omega arith), (λ e. omega arith)))
      as_it_is_in_double
      c t (λ ascii. u.plain) u.ends (omega (arith, top_of c h)))
  | inr not_it ↦ rw not_it (coded c t h)
])

-- a character that is this one passes, and any other is not this one
abbrev Either : ℕ → ℕ → Type 0
Either c k = Passes c ⊎ (c ≡ k → ⊥)

either : (c k : ℕ) → Passes k → Either c k
either c k h = elim (cases_eq c k) [ inl e ↦ inl (subst Passes (sym e) h) | inr other ↦ inr other ]

named : (c : ℕ) → Passes c ⊎ Unnamed c
unfolding encode
named c =
    elim (either c 0 (λ t. refl)) [
      | inl p ↦ inl p
      | inr n0 ↦
          elim (either c 7 (λ t. refl)) [
            | inl p ↦ inl p
            | inr n7 ↦
                elim (either c 8 (λ t. refl)) [
                  | inl p ↦ inl p
                  | inr n8 ↦
                      elim (either c 9 (λ t. refl)) [
                        | inl p ↦ inl p
                        | inr n9 ↦
                            elim (either c 10 (λ t. refl)) [
                              | inl p ↦ inl p
                              | inr n10 ↦
                                  elim (either c 11 (λ t. refl)) [
                                    | inl p ↦ inl p
                                    | inr n11 ↦
                                        elim (either c 12 (λ t. refl)) [
                                          | inl p ↦ inl p
                                          | inr n12 ↦
                                              elim (either c 13 (λ t. refl)) [
                                                | inl p ↦ inl p
                                                | inr n13 ↦
                                                    elim (either c 27 (λ t. refl)) [
                                                      | inl p ↦ inl p
                                                      | inr n27 ↦
                                                          elim (either c 34 (λ t. refl)) [
                                                            | inl p ↦ inl p
                                                            | inr n34 ↦
                                                                elim (either c 92 (λ t. refl)) [
                                                                  | inl p ↦ inl p
                                                                  | inr n92 ↦
                                                                      elim (either c 0x85 (λ t. refl)) [
                                                                        | inl p ↦ inl p
                                                                        | inr next ↦
                                                                            elim (either c 0x2028 (λ t. refl)) [
                                                                              | inl p ↦ inl p
                                                                              | inr line ↦
                                                                                  elim (either c 0x2029 (λ t. refl)) [
                                                                                    | inl p ↦ inl p
                                                                                    | inr paragraph ↦
                                                                                        inr (record {
                                                                                          letter = rw (
                                                                                            ne_eqb c 0 n0,
                                                                                            ne_eqb c 7 n7,
                                                                                            ne_eqb c 8 n8,
                                                                                            ne_eqb c 9 n9,
                                                                                            ne_eqb c 10 n10,
                                                                                            ne_eqb c 11 n11,
                                                                                            ne_eqb c 12 n12,
                                                                                            ne_eqb c 13 n13,
                                                                                            ne_eqb c 27 n27,
                                                                                            ne_eqb c 34 n34,
                                                                                            ne_eqb c 92 n92,
                                                                                            ne_eqb c 0x85 next,
                                                                                            ne_eqb c 0x2028 line,
                                                                                            ne_eqb c 0x2029 paragraph,
                                                                                          ) refl;
                                                                                          plain = (n92, n34);
                                                                                          ends = record {
                                                                                            feed = n10;
                                                                                            return = n13;
                                                                                            next = next;
                                                                                            line = line;
                                                                                            paragraph = paragraph;
                                                                                          };
                                                                                        })
                                                                                  ]
                                                                            ]
                                                                      ]
                                                                ]
                                                          ]
                                                    ]
                                              ]
                                        ]
                                  ]
                            ]
                      ]
                ]
          ]
    ]

passes : (c : ℕ) → scalar c ≡ true → Passes c
passes c h = elim (named c) [ inl p ↦ p | inr u ↦ passes_unnamed c h u ]

-- ---- the whole text

unescaped-all : (cs : List ℕ) → scalars cs ≡ true → unescaped (flat_map escaped_character cs) ≡ Some (encodes cs)
unescaped-all [] h = refl
unescaped-all (c ∷ cs) h =
    let p = and_parts _ _ h in
    passes c p.0 (flat_map escaped_character cs) ∙ ap (before (encode c)) (unescaped-all cs p.1)

-- what is printed between double quotes stands for the text
pub unescaped-printed : (text : List ℕ) → IsUtf8 text → unescaped (flat_map escaped_character (chars text)) ≡ Some text
unescaped-printed text u = unescaped-all (chars text) (scalars-chars text u) ∙ ap Some (encodes-chars text u)
