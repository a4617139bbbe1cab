-- Bytes that stand for themselves on one line.
use Rattle.std.proofs.Common.{◌≡◌, ℕ, zero, suc, ◌+◌, ◌/◌, ◌%◌, ◌<◌, ◌≤◌, Bool, true, false, List, [], ◌∷◌, ◌++◌}
use Rattle.std.proofs.Common.{Option, Some, None, inl, inr, refl, sym, ap, ◌∙◌, subst, arith, append_assoc}
use Rattle.std.proofs.lemmas.Bool.{cases_eq, cases_lt, false≢true, and_parts, or_parts, eqb-false, ne_eqb, le-ltb}
use Rattle.std.proofs.lemmas.Bool.{lt-ltb}
use Rattle.std.proofs.lemmas.Str.{encodes-chars, scalars-chars}
use Rattle.std.specs.List.{list_all, list_any}
use Rattle.std.specs.Prelude.{if◌then◌else◌}
use Rattle.std.specs.Str.{IsUtf8, chars}
use lib.Utf8.{encode, encodes, scalar, scalars, scalar_cases}
use Rattle.yaml_base.specs.LineBreaks.{begins_with_break, IsOneLine}
use Rattle.yaml_base.specs.QuotedLines.{before}
use Rattle.yaml_emit.specs.Characters.{is_break, is_printable}

-- two parts before a text
pub before-before : (a b : List ℕ) (r : Option (List ℕ)) → before a (before b r) ≡ before (a ++ b) r
before-before a b None = refl
before-before a b (Some s) = ap Some (sym (append_assoc a b s))

-- no line break begins with this byte
calm : (b : ℕ) (t : List ℕ) → (b ≡ 10 → ⊥) → (b ≡ 13 → ⊥) → (b ≡ 0xC2 → ⊥) → (b ≡ 0xE2 → ⊥)
    → begins_with_break (b ∷ t) ≡ false
calm b t lf cr two three = rw (ne_eqb b 10 lf, ne_eqb b 13 cr, ne_eqb b 0xC2 two, ne_eqb b 0xE2 three) refl

-- nor with these two
calm_pair : (a b : ℕ) (t : List ℕ) → (a ≡ 10 → ⊥) → (a ≡ 13 → ⊥) → (a ≡ 0xC2 → b ≡ 0x85 → ⊥) → (a ≡ 0xE2 → ⊥)
    → begins_with_break (a ∷ b ∷ t) ≡ false
calm_pair a b t lf cr two three = elim (cases_eq a 0xC2) [
  | inl e ↦ subst (λ x. begins_with_break (x ∷ b ∷ t) ≡ false) (sym e) (rw (ne_eqb b 0x85 (two e)) refl)
  | inr other ↦ calm a (b ∷ t) lf cr other three
]

-- nor with these three
calm_triple : (a b c : ℕ) (t : List ℕ) → (a ≡ 10 → ⊥) → (a ≡ 13 → ⊥) → (a ≡ 0xC2 → ⊥)
    → (a ≡ 0xE2 → b ≡ 0x80 → c ≡ 0xA8 → ⊥) → (a ≡ 0xE2 → b ≡ 0x80 → c ≡ 0xA9 → ⊥)
    → begins_with_break (a ∷ b ∷ c ∷ t) ≡ false
calm_triple a b c t lf cr two line para = elim (cases_eq a 0xE2) [
  | inl e ↦ subst (λ x. begins_with_break (x ∷ b ∷ c ∷ t) ≡ false) (sym e) (elim (cases_eq b 0x80) [
    | inl f ↦ subst (λ x. begins_with_break (0xE2 ∷ x ∷ c ∷ t) ≡ false) (sym f)
        (rw (ne_eqb c 0xA8 (line e f), ne_eqb c 0xA9 (para e f)) refl)
    | inr other ↦ rw (ne_eqb b 0x80 other) refl
  ])
  | inr other ↦ calm a (b ∷ c ∷ t) lf cr two other
]

-- no line ends with the character
pub record EndsNoLine (c : ℕ) : Type 0 where
  pub feed : c ≡ 10 → ⊥
  pub return : c ≡ 13 → ⊥
  pub next : c ≡ 0x85 → ⊥
  pub line : c ≡ 0x2028 → ⊥
  pub paragraph : c ≡ 0x2029 → ⊥

pub ends_no_line : (c : ℕ) → is_break c ≡ false → EndsNoLine c
ends_no_line c h =
    let four = or_parts _ _ h in
    let three = or_parts _ _ four.0 in
    let two = or_parts _ _ three.0 in
    let one = or_parts _ _ two.0 in
    record {
      feed = eqb-false c 10 one.0;
      return = eqb-false c 13 one.1;
      next = eqb-false c 0x85 two.1;
      line = eqb-false c 0x2028 three.1;
      paragraph = eqb-false c 0x2029 four.1;
    }

-- a character has a code of at most this
pub top_of : (c : ℕ) → scalar c ≡ true → c ≤ 0x10FFFF
top_of c h = elim (scalar_cases c h) [ inl low ↦ omega arith | inr high ↦ omega (arith, high.1) ]

-- a reader that takes a byte as itself where that is plain and no line break begins there; bytes beyond ASCII are plain
module _ (read : List ℕ → Option (List ℕ)) (IsPlain : ℕ → Type 0) (beyond : (b : ℕ) → 128 ≤ b → IsPlain b)
    (as_it_is : (b : ℕ) (t : List ℕ) → IsPlain b → begins_with_break (b ∷ t) ≡ false
    → read (b ∷ t) ≡ before (b ∷ []) (read t)) where
  -- a byte behind the first of a character
  inner : (b : ℕ) (t : List ℕ) → 128 ≤ b → b < 192 → read (b ∷ t) ≡ before (b ∷ []) (read t)
  inner b t low high = as_it_is b t (beyond b low)
      (calm b t (λ e. omega arith) (λ e. omega arith) (λ e. omega arith) (λ e. omega arith))

  -- a character that is plain stands for itself
  pub shown : (c : ℕ) (t : List ℕ) → (c < 128 → IsPlain c) → EndsNoLine c → c < 0x110000
      → read (encode c ++ t) ≡ before (encode c) (read t)
  unfolding encode
  shown c t plain u small = elim (cases_lt c 0x80) [
    | inl one ↦ rw (lt-ltb c 0x80 one)
        (as_it_is c t (plain one) (calm c t u.feed u.return (λ e. omega arith) (λ e. omega arith)))
    | inr more ↦ elim (cases_lt c 0x800) [
      | inl two ↦
          let b0 = 192 + c / 64 in let b1 = 128 + c % 64 in
          rw (le-ltb c 0x80 more, lt-ltb c 0x800 two) (
          as_it_is b0 (b1 ∷ t) (beyond b0 (omega arith))
          (calm_pair b0 b1 t (λ e. omega arith) (λ e. omega arith) (λ e f. u.next (omega arith)) (λ e. omega arith))
          ∙ ap (before (b0 ∷ [])) (inner b1 t (omega arith) (omega arith))
          ∙ before-before (b0 ∷ []) (b1 ∷ []) _)
      | inr most ↦ elim (cases_lt c 0x10000) [
        | inl three ↦
            let b0 = 224 + c / 4096 in let b1 = 128 + c / 64 % 64 in let b2 = 128 + c % 64 in
            rw (le-ltb c 0x80 more, le-ltb c 0x800 most, lt-ltb c 0x10000 three) (
            as_it_is b0 (b1 ∷ b2 ∷ t) (beyond b0 (omega arith))
            (calm_triple b0 b1 b2 t (λ e. omega arith) (λ e. omega arith) (λ e. omega arith)
            (λ e f g. u.line (omega arith)) (λ e f g. u.paragraph (omega arith)))
            ∙ ap (before (b0 ∷ [])) (inner b1 (b2 ∷ t) (omega arith) (omega arith)
            ∙ ap (before (b1 ∷ [])) (inner b2 t (omega arith) (omega arith)))
            ∙ before-before (b0 ∷ []) (b1 ∷ []) _ ∙ before-before (b0 ∷ b1 ∷ []) (b2 ∷ []) _)
        | inr four ↦
            let b0 = 240 + c / 262144 in let b1 = 128 + c / 4096 % 64 in
            let b2 = 128 + c / 64 % 64 in let b3 = 128 + c % 64 in
            rw (le-ltb c 0x80 more, le-ltb c 0x800 most, le-ltb c 0x10000 four) (
            as_it_is b0 (b1 ∷ b2 ∷ b3 ∷ t) (beyond b0 (omega arith))
            (calm b0 (b1 ∷ b2 ∷ b3 ∷ t) (λ e. omega arith) (λ e. omega arith) (λ e. omega arith) (λ e. omega arith))
            ∙ ap (before (b0 ∷ [])) (inner b1 (b2 ∷ b3 ∷ t) (omega arith) (omega arith)
            ∙ ap (before (b1 ∷ [])) (inner b2 (b3 ∷ t) (omega arith) (omega arith)
            ∙ ap (before (b2 ∷ [])) (inner b3 t (omega arith) (omega arith))))
            ∙ before-before (b0 ∷ []) (b1 ∷ []) _ ∙ before-before (b0 ∷ b1 ∷ []) (b2 ∷ []) _
            ∙ before-before (b0 ∷ b1 ∷ b2 ∷ []) (b3 ∷ []) _)
      ]
    ]
  ]

-- ---- texts on one line

-- the bytes, if no line break stands in them
abbrev one_line : List ℕ → Option (List ℕ)
one_line [] = Some []
one_line (b ∷ t) = if begins_with_break (b ∷ t) then None else before (b ∷ []) (one_line t)

one_line-all : (cs : List ℕ) → scalars cs ≡ true → list_any is_break cs ≡ false
    → one_line (encodes cs) ≡ Some (encodes cs)
one_line-all [] h alone = refl
one_line-all (c ∷ cs) h alone =
    let p = and_parts _ _ h in
    let a = or_parts _ _ alone in
    shown one_line (λ b. Unit {0}) (λ b far. tt) (λ b t plain no_break. rw no_break refl) c (encodes cs) (λ ascii. tt)
    (ends_no_line c a.0) (omega (arith, top_of c p.0)) ∙ ap (before (encode c)) (one_line-all cs p.1 a.1)

abbrev is_found : Option (List ℕ) → Bool
is_found None = false
is_found (Some t) = true

found_behind : (b : Bool) (t : List ℕ) (o : Option (List ℕ)) → is_found (if b then None else before t o) ≡ true
    → (b ≡ false) × (is_found o ≡ true)
found_behind true t o h = absurd (false≢true h)
found_behind false t None h = absurd (false≢true h)
found_behind false t (Some s) h = (refl, refl)

is_one_line : (bytes : List ℕ) → is_found (one_line bytes) ≡ true → IsOneLine bytes
is_one_line [] h k inside = absurd (omega arith)
is_one_line (b ∷ t) h zero inside = (found_behind (begins_with_break (b ∷ t)) (b ∷ []) (one_line t) h).0
is_one_line (b ∷ t) h (suc k) inside =
    is_one_line t (found_behind (begins_with_break (b ∷ t)) (b ∷ []) (one_line t) h).1 k (omega arith)

-- a text without line breaks stands on one line
pub one_line-IsOneLine : (text : List ℕ) → IsUtf8 text → list_any is_break (chars text) ≡ false → IsOneLine text
one_line-IsOneLine text u alone =
    subst IsOneLine (encodes-chars text u)
    (is_one_line (encodes (chars text)) (ap is_found (one_line-all (chars text) (scalars-chars text u) alone)))

-- a printable character ends no line
printable_is_no_break : (c : ℕ) → is_printable c ≡ true → is_break c ≡ false
printable_is_no_break c h =
    let other : (k : ℕ) → is_printable k ≡ false → c ≡ k
    → ⊥ = λ k none e. false≢true (sym none ∙ (ap is_printable (sym e) ∙ h)) in
    rw (
      ne_eqb c 10 (other 10 refl),
      ne_eqb c 13 (other 13 refl),
      ne_eqb c 0x85 (other 0x85 refl),
      ne_eqb c 0x2028 (other 0x2028 refl),
      ne_eqb c 0x2029 (other 0x2029 refl),
    ) refl

pub printable_has_no_break : (cs : List ℕ) → list_all is_printable cs ≡ true → list_any is_break cs ≡ false
printable_has_no_break [] h = refl
printable_has_no_break (c ∷ cs) h =
    let p = and_parts _ _ h in rw (printable_is_no_break c p.0) (printable_has_no_break cs p.1)
