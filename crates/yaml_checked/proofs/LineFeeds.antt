-- Of the grammar's characters a line feed alone ends a line.
use lib.Utf8.{encode, encodes}
use Rattle.std.proofs.Common.{◌≡◌, ◌≢◌, ℕ, zero, suc, ◌+◌, ◌-◌, ◌/◌, ◌%◌, ◌<◌, ◌≤◌, ◌==◌, ◌&&◌, ◌⊎◌, Bool, true}
use Rattle.std.proofs.Common.{false, List, [], ◌∷◌, ◌++◌, arith, ap, subst, sym, refl, ◌∙◌, drop, length, inl, inr}
use Rattle.std.specs.Prelude.{slice_index, slice_range}
use Rattle.std.specs.List.{list_all}
use Rattle.std.specs.Str.{chars}
use Rattle.std.proofs.lemmas.Bool.{and_parts, cases_eq, cases_lt, eqb-true, false_from_ne_true, false≢true, le-ltb}
use Rattle.std.proofs.lemmas.Bool.{lt-ltb, ne_eqb, or_cases, or_left, or_right}
use Rattle.std.proofs.lemmas.List.{get_or-drop, get_or-take, get_or_past, length-take}
use Rattle.std.proofs.lemmas.Str.{IsUtf8-from_is_utf8, encodes-chars}
use Rattle.yaml_base.specs.LineBreaks.{IsOneLine, begins_with_break}
use Rattle.yaml_grammar.specs.Bytes.{at, is_character, is_text}

-- a line ends only with line feeds
abbrev FeedsAlone : List ℕ → Type 0
FeedsAlone bytes = (k : ℕ) → begins_with_break (drop k bytes) ≡ true → at bytes k ≡ 10

byte_more : (b : ℕ) (bs : List ℕ) → (b ≢ 10 → begins_with_break (b ∷ bs) ≡ false) → FeedsAlone bs
    → FeedsAlone (b ∷ bs)
byte_more b bs calm alone zero h =
    elim (cases_eq b 10) [ inl e ↦ e | inr other ↦ absurd (false≢true (sym (calm other) ∙ h)) ]
byte_more b bs calm alone (suc k) h = alone k h

-- no line ends with this byte, nor with these two, nor these three
calm_one : (b : ℕ) (bs : List ℕ) → b ≢ 13 → b ≢ 0xC2 → b ≢ 0xE2 → b ≢ 10 → begins_with_break (b ∷ bs) ≡ false
calm_one b bs return two three feed =
    rw (ne_eqb b 10 feed, ne_eqb b 13 return, ne_eqb b 0xC2 two, ne_eqb b 0xE2 three) refl

calm_two : (b d : ℕ) (bs : List ℕ) → b ≢ 13 → (b ≡ 0xC2 → d ≢ 0x85) → b ≢ 0xE2 → b ≢ 10
    → begins_with_break (b ∷ (d ∷ bs)) ≡ false
calm_two b d bs return two three feed = elim (cases_eq b 0xC2) [
  | inl e ↦ subst (λ x. begins_with_break (x ∷ (d ∷ bs)) ≡ false) (sym e) (rw (ne_eqb d 0x85 (two e)) refl)
  | inr other ↦ calm_one b (d ∷ bs) return other three feed
]

calm_three : (b d f : ℕ) (bs : List ℕ) → b ≢ 13 → b ≢ 0xC2 → (b ≡ 0xE2 → d ≡ 0x80 → f ≢ 0xA8)
    → (b ≡ 0xE2 → d ≡ 0x80 → f ≢ 0xA9) → b ≢ 10 → begins_with_break (b ∷ (d ∷ (f ∷ bs))) ≡ false
calm_three b d f bs return two line paragraph feed = elim (cases_eq b 0xE2) [
  | inl e ↦ subst (λ x. begins_with_break (x ∷ (d ∷ (f ∷ bs))) ≡ false) (sym e) (elim (cases_eq d 0x80) [
    | inl g ↦ subst (λ x. begins_with_break (0xE2 ∷ (x ∷ (f ∷ bs))) ≡ false) (sym g)
        (rw (ne_eqb f 0xA8 (line e g), ne_eqb f 0xA9 (paragraph e g)) refl)
    | inr other ↦ rw (ne_eqb d 0x80 other) refl
  ])
  | inr other ↦ calm_one b (d ∷ (f ∷ bs)) return two other feed
]

-- a byte behind the first of a character
inner : (b : ℕ) (bs : List ℕ) → 128 ≤ b → b < 192 → FeedsAlone bs → FeedsAlone (b ∷ bs)
inner b bs low high =
    byte_more b bs (calm_one b bs (λ e. omega arith) (λ e. omega arith) (λ e. omega arith))

no_character : (c d : ℕ) → is_character c ≡ true → is_character d ≡ false → c ≢ d
no_character c d h none e = false≢true (sym none ∙ ap is_character (sym e) ∙ h)

top_of : (c : ℕ) → is_character c ≡ true → c < 0x110000
top_of c h = grind (arith, h)

character_more : (c : ℕ) (bs : List ℕ) → is_character c ≡ true → FeedsAlone bs → FeedsAlone (encode c ++ bs)
unfolding encode
character_more c bs h alone = elim (cases_lt c 0x80) [
  | inl one ↦ rw (lt-ltb c 0x80 one)
      (byte_more c bs (calm_one c bs (no_character c 13 h refl) (λ e. omega arith) (λ e. omega arith)) alone)
  | inr more ↦ elim (cases_lt c 0x800) [
    | inl two ↦
        let b = 192 + c / 64 in let d = 128 + c % 64 in
        rw (le-ltb c 0x80 more, lt-ltb c 0x800 two) (
        byte_more b (d ∷ bs) (calm_two b d bs (λ e. omega arith)
        (λ e f. no_character c 0x85 h refl (omega (arith, e, f))) (λ e. omega arith))
        (inner d bs (omega arith) (omega arith) alone))
    | inr most ↦ elim (cases_lt c 0x10000) [
      | inl three ↦
          let b = 224 + c / 4096 in let d = 128 + c / 64 % 64 in let f = 128 + c % 64 in
          rw (le-ltb c 0x80 more, le-ltb c 0x800 most, lt-ltb c 0x10000 three) (
          byte_more b (d ∷ (f ∷ bs)) (calm_three b d f bs (λ e. omega arith) (λ e. omega arith)
          (λ e g i. no_character c 0x2028 h refl (omega (arith, e, g, i)))
          (λ e g i. no_character c 0x2029 h refl (omega (arith, e, g, i))))
          (inner d (f ∷ bs) (omega arith) (omega arith) (inner f bs (omega arith) (omega arith) alone)))
      | inr four ↦
          let small = top_of c h in
          let b = 240 + c / 262144 in let d = 128 + c / 4096 % 64 in
          let f = 128 + c / 64 % 64 in let g = 128 + c % 64 in
          rw (le-ltb c 0x80 more, le-ltb c 0x800 most, le-ltb c 0x10000 four) (
          byte_more b (d ∷ (f ∷ (g ∷ bs)))
          (calm_one b (d ∷ (f ∷ (g ∷ bs))) (λ e. omega arith) (λ e. omega arith) (λ e. omega arith))
          (inner d (f ∷ (g ∷ bs)) (omega arith) (omega arith)
          (inner f (g ∷ bs) (omega arith) (omega arith) (inner g bs (omega arith) (omega arith) alone))))
    ]
  ]
]

none_alone : FeedsAlone []
none_alone zero h = absurd (false≢true h)
none_alone (suc k) h = absurd (false≢true h)

characters_alone : (cs : List ℕ) → list_all is_character cs ≡ true → FeedsAlone (encodes cs)
characters_alone [] h = none_alone
characters_alone (c ∷ cs) h =
    let both = and_parts (is_character c) _ h in
    character_more c (encodes cs) both.0 (characters_alone cs both.1)

text_alone : (text : List ℕ) → is_text text ≡ true → FeedsAlone text
text_alone text h =
    let both = and_parts _ _ h in
    subst FeedsAlone (encodes-chars text (IsUtf8-from_is_utf8 text both.0)) (characters_alone (chars text) both.1)

-- a byte is the same, or stands behind the end
abbrev SameOrEnd : (b d : ℕ) → Type 0
SameOrEnd b d = (b ≡ d) ⊎ (b ≡ 0)

kept : (b d v : ℕ) → SameOrEnd b d → (b == suc v) ≡ true → (d == suc v) ≡ true
kept b d v (inl same) h = ap (λ x. x == suc v) (sym same) ∙ h
kept b d v (inr end) h = let is : b ≡ suc v = eqb-true b (suc v) h in absurd (omega (arith, is, end))

and_true : (x y : Bool) → x ≡ true → y ≡ true → (x && y) ≡ true
and_true x y p q = rw (p, q) refl

-- a break that stands in a piece of a text stands there in the text
break_kept : (xs ys : List ℕ) → ((k : ℕ) → SameOrEnd (at xs k) (at ys k)) → begins_with_break xs ≡ true
    → begins_with_break ys ≡ true
break_kept xs ys same h =
    let byte : (k v : ℕ) → (at xs k == suc v) ≡ true → (at ys k == suc v) ≡ true =
    λ k v. kept (at xs k) (at ys k) v (same k) in
    elim (or_cases (at xs 0 == 10) _ h) [
      | inl e ↦ or_left (at ys 0 == 10) _ (byte 0 9 e)
      | inr h ↦ or_right (at ys 0 == 10) _ (elim (or_cases (at xs 0 == 13) _ h) [
        | inl e ↦ or_left (at ys 0 == 13) _ (byte 0 12 e)
        | inr h ↦ or_right (at ys 0 == 13) _ (elim (or_cases (at xs 0 == 0xC2 && at xs 1 == 0x85) _ h) [
          | inl e ↦
              let both = and_parts (at xs 0 == 0xC2) (at xs 1 == 0x85) e in
              or_left (at ys 0 == 0xC2 && at ys 1 == 0x85) _ (and_true _ _ (byte 0 0xC1 both.0) (byte 1 0x84 both.1))
          | inr e ↦
              let both = and_parts (at xs 0 == 0xE2) _ e in
              let others = and_parts (at xs 1 == 0x80) _ both.1 in
              or_right (at ys 0 == 0xC2 && at ys 1 == 0x85) _ (and_true _ _ (byte 0 0xE1 both.0)
              (and_true _ _ (byte 1 0x7F others.0) (elim (or_cases (at xs 2 == 0xA8) (at xs 2 == 0xA9) others.1) [
                | inl f ↦ or_left (at ys 2 == 0xA8) (at ys 2 == 0xA9) (byte 2 0xA7 f)
                | inr f ↦ or_right (at ys 2 == 0xA8) (at ys 2 == 0xA9) (byte 2 0xA8 f)
              ])))
        ])
      ])
    ]

piece_byte : (text : List ℕ) (i j k : ℕ) → k < j - i → at (slice_range text i j) k ≡ at text (i + k)
piece_byte text i j k less = get_or-take (j - i) (drop i text) k 0 less ∙ get_or-drop i text k 0

piece_bytes : (text : List ℕ) (i j k m : ℕ)
    → SameOrEnd (at (drop k (slice_range text i j)) m) (at (drop (i + k) text) m)
piece_bytes text i j k m =
    let s = slice_range text i j in
    let here : at (drop k s) m ≡ at s (k + m) = get_or-drop k s m 0 in
    let there : at (drop (i + k) text) m ≡ at text (i + k + m) = get_or-drop (i + k) text m 0 in
    let moved : i + (k + m) ≡ i + k + m = omega arith in
    elim (cases_lt (k + m) (j - i)) [
      | inl less ↦ inl (here ∙ piece_byte text i j (k + m) less ∙ ap (at text) moved ∙ sym there)
      | inr over ↦ inr (here ∙ get_or_past s (k + m) 0 (omega (arith, over, length-take (j - i) (drop i text))))
    ]

-- a piece of such a text without line feeds is one line
pub piece_is_one_line : (text s : List ℕ) (i j : ℕ) → is_text text ≡ true
    → ((k : ℕ) → k < length s → slice_index s k ≢ 10) → s ≡ slice_range text i j → IsOneLine s
piece_is_one_line text s i j h one is k less =
    let piece = slice_range text i j in
    let short : k < j - i =
    omega (arith, less, ap length is, length-take (j - i) (drop i text)) in
    false_from_ne_true (begins_with_break (drop k s)) (λ e.
    let there = break_kept (drop k piece) (drop (i + k) text) (piece_bytes text i j k)
    (subst (λ l. begins_with_break (drop k l) ≡ true) is e) in
    one k less (ap (λ l. at l k) is ∙ piece_byte text i j k short ∙ text_alone text h (i + k) there))
