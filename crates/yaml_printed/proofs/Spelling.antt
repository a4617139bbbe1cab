-- Texts by their characters: which characters a printed text has.
use Rattle.std.proofs.Common.{◌≡◌, ℕ, zero, suc, ◌<◌, Bool, true, refl}
use Rattle.std.proofs.Common.{sym, ap, ap₂, ◌∙◌, subst, arith, List, [], ◌∷◌, ◌++◌, replicate}
use Rattle.std.proofs.lemmas.Bool.{and_from, and_parts}
use Rattle.std.proofs.lemmas.List.{append-nil}
use Rattle.std.proofs.lemmas.Str.{encode_ascii, encodes-append, encodes-chars, scalars-chars, chars-encodes}
use Rattle.std.proofs.lemmas.Str.{is_utf8-from_IsUtf8}
use Rattle.std.specs.List.{list_all}
use Rattle.std.specs.Str.{IsUtf8, chars, is_utf8}
use lib.Utf8.{encode, encodes, scalar, scalars}
use Rattle.yaml_grammar.specs.Bytes.{is_character, is_text}
use Rattle.yaml_printed.proofs.ByteLaws.{all_append}

-- the bytes are UTF-8 of characters that pass a test
pub record Spells (q : ℕ → Bool) (xs : List ℕ) : Type 0 where
  pub letters : List ℕ
  pub same : encodes letters ≡ xs
  pub are : scalars letters ≡ true
  pub pass : list_all q letters ≡ true

scalars_append : (xs ys : List ℕ) → scalars xs ≡ true → scalars ys ≡ true → scalars (xs ++ ys) ≡ true
scalars_append [] ys h g = g
scalars_append (x ∷ xs) ys h g =
    let p = and_parts (scalar x) (scalars xs) h in
    and_from (scalar x) (scalars (xs ++ ys)) p.0 (scalars_append xs ys p.1 g)

pub spells_none : {q : ℕ → Bool} → Spells q []
spells_none = record { letters = []; same = refl; are = refl; pass = refl }

pub spells_append : {q : ℕ → Bool} {xs ys : List ℕ} → Spells q xs → Spells q ys → Spells q (xs ++ ys)
spells_append {q = q} {xs = xs} {ys = ys} s t = record {
  letters = s.letters ++ t.letters;
  same = encodes-append s.letters t.letters ∙ ap₂ (λ a b. a ++ b) s.same t.same;
  are = scalars_append s.letters t.letters s.are t.are;
  pass = all_append q s.letters t.letters s.pass t.pass;
}

-- one character
pub spells_one : {q : ℕ → Bool} (c : ℕ) → scalar c ≡ true → q c ≡ true → Spells q (encode c)
spells_one {q = q} c s h = record {
  letters = c ∷ [];
  same = append-nil (encode c);
  are = and_from (scalar c) true s refl;
  pass = and_from (q c) true h refl;
}

-- a byte of ASCII
pub spells_byte : {q : ℕ → Bool} (c : ℕ) → c < 128 → q c ≡ true → Spells q (c ∷ [])
spells_byte {q = q} c low h = subst (Spells q) (encode_ascii c low) (spells_one c (scalar_low c low) h)
  where
    scalar_low : (c : ℕ) → c < 128 → scalar c ≡ true
    scalar_low c low = grind (arith, low)

pub spells_more : {q : ℕ → Bool} {xs : List ℕ} (c : ℕ) → c < 128 → q c ≡ true → Spells q xs → Spells q (c ∷ xs)
spells_more c low h s = spells_append (spells_byte c low h) s

pub spells_text : {q : ℕ → Bool} (text : List ℕ) → IsUtf8 text → list_all q (chars text) ≡ true → Spells q text
spells_text text u h = record {
  letters = chars text;
  same = encodes-chars text u;
  are = scalars-chars text u;
  pass = h;
}

all_more : (q p : ℕ → Bool) → ((c : ℕ) → scalar c ≡ true → q c ≡ true → p c ≡ true) → (cs : List ℕ)
    → scalars cs ≡ true → list_all q cs ≡ true → list_all p cs ≡ true
all_more q p h [] s all = refl
all_more q p h (c ∷ cs) s all =
    let a = and_parts (q c) (list_all q cs) all in
    let b = and_parts (scalar c) (scalars cs) s in
    and_from (p c) (list_all p cs) (h c b.0 a.0) (all_more q p h cs b.1 a.1)

pub spells_wider : {q p : ℕ → Bool} {xs : List ℕ} → ((c : ℕ) → scalar c ≡ true → q c ≡ true → p c ≡ true) → Spells q xs
    → Spells p xs
spells_wider {q = q} {p = p} h s = record {
  letters = s.letters;
  same = s.same;
  are = s.are;
  pass = all_more q p h s.letters s.are s.pass;
}

pub spells_spaces : {q : ℕ → Bool} (n : ℕ) → q 32 ≡ true → Spells q (replicate n 32)
spells_spaces zero h = spells_none
spells_spaces (suc n) h = spells_more 32 (omega arith) h (spells_spaces n h)

-- such a text is one of the grammar's where its characters are
pub spells_is_text : {xs : List ℕ} → Spells is_character xs → is_text xs ≡ true
spells_is_text {xs = xs} s =
    let letters : chars xs ≡ s.letters = ap chars (sym s.same) ∙ chars-encodes s.letters s.are in
    and_from (is_utf8 xs) (list_all is_character (chars xs)) (is_utf8-from_IsUtf8 xs (s.letters, (s.are, s.same)))
    (ap (list_all is_character) letters ∙ s.pass)
