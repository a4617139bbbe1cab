-- What holds of each byte of a text, by its characters.
use Rattle.std.proofs.Common.{◌≡◌, ℕ, ◌<◌, ◌≤◌, Bool, true, refl}
use Rattle.std.proofs.Common.{subst, arith, List, [], ◌∷◌, ◌++◌, inl, inr}
use Rattle.std.proofs.lemmas.Bool.{and_from, and_parts, cases_lt, lt-ltb, le-ltb}
use Rattle.std.proofs.lemmas.Str.{encodes-chars, scalars-chars}
use Rattle.std.specs.List.{list_all}
use Rattle.std.specs.Str.{IsUtf8, chars}
use lib.Utf8.{encode, encodes, scalar, scalars}
use Rattle.yaml_emit.proofs.ByItself.{top_of}

module _ (p : ℕ → Bool) where
  pub all_append : (xs ys : List ℕ) → list_all p xs ≡ true → list_all p ys ≡ true → list_all p (xs ++ ys) ≡ true
  all_append [] ys h g = g
  all_append (x ∷ xs) ys h g =
      let q = and_parts (p x) (list_all p xs) h in
      and_from (p x) (list_all p (xs ++ ys)) q.0 (all_append xs ys q.1 g)

  module _ (beyond : (b : ℕ) → 128 ≤ b → b < 256 → p b ≡ true) where
    -- a character's
    pub encode_all : (c : ℕ) → c < 0x110000 → (c < 128 → p c ≡ true) → list_all p (encode c) ≡ true
    unfolding encode
    encode_all c top h = elim (cases_lt c 0x80) [
      | inl one ↦ rw (lt-ltb c 0x80 one) (and_from (p c) true (h one) refl)
      | inr more ↦ elim (cases_lt c 0x800) [
        | inl two ↦ rw (le-ltb c 0x80 more, lt-ltb c 0x800 two)
            (and_from _ _ (beyond _ (omega arith) (omega arith)) (and_from _ true
            (beyond _ (omega arith) (omega arith)) refl))
        | inr most ↦ elim (cases_lt c 0x10000) [
          | inl three ↦ rw (le-ltb c 0x80 more, le-ltb c 0x800 most, lt-ltb c 0x10000 three)
              (and_from _ _ (beyond _ (omega arith) (omega arith)) (and_from _ _ (beyond _ (omega arith) (omega arith))
              (and_from _ true (beyond _ (omega arith) (omega arith)) refl)))
          | inr four ↦ rw (le-ltb c 0x80 more, le-ltb c 0x800 most, le-ltb c 0x10000 four)
              (and_from _ _ (beyond _ (omega arith) (omega arith)) (and_from _ _ (beyond _ (omega arith) (omega arith))
              (and_from _ _ (beyond _ (omega arith) (omega arith)) (and_from _ true
              (beyond _ (omega arith) (omega arith)) refl))))
        ]
      ]
    ]

    -- those of characters that pass a test
    pub encodes_all : (q : ℕ → Bool) → ((c : ℕ) → q c ≡ true → c < 128 → p c ≡ true) → (cs : List ℕ)
        → scalars cs ≡ true → list_all q cs ≡ true → list_all p (encodes cs) ≡ true
    encodes_all q h [] s all = refl
    encodes_all q h (c ∷ cs) s all =
        let a = and_parts (q c) (list_all q cs) all in
        let b = and_parts (scalar c) (scalars cs) s in
        all_append (encode c) (encodes cs) (encode_all c (omega (arith, top_of c b.0)) (h c a.0))
        (encodes_all q h cs b.1 a.1)

    -- those of a text
    pub text_all : (q : ℕ → Bool) → ((c : ℕ) → q c ≡ true → c < 128 → p c ≡ true) → (text : List ℕ) → IsUtf8 text
        → list_all q (chars text) ≡ true → list_all p text ≡ true
    text_all q h text u all =
        subst (λ t. list_all p t ≡ true) (encodes-chars text u) (encodes_all q h (chars text) (scalars-chars text u)
        all)
