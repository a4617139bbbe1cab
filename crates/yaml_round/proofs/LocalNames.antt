-- The names of the tags that variants and tagged values are written with.
use Rattle.std.specs.Prelude.{Some, Bool, true, false, not, ◌==◌, if◌then◌else◌}
use Rattle.std.specs.Str.{is_utf8}
use Rattle.std.proofs.Common.{◌≡◌, ℕ, List, [], ◌∷◌, length, refl, sym, arith}
use Rattle.std.proofs.lemmas.Bool.Decides.{Decides-eqb}
use Rattle.std.proofs.lemmas.Slice.Eq.{bytes_eq-Decides}
use Rattle.std.proofs.lemmas.Str.{IsUtf8-from_is_utf8, is_utf8-from_IsUtf8, IsUtf8-past_char, encode_ascii}
use Rattle.yaml_base.proofs.SignLaws.{unproved}
use Rattle.yaml_base.specs.LocalName.{local_name}
use Rattle.yaml_tree.specs.Tag.{is_tag, tag_name, tag_eq}
use Rattle.yaml_meaning.specs.ScalarSorts.{is_local}
use Rattle.yaml_write.specs.LocalTags.{local_tag, value_tag}
use Rattle.yaml_round.specs.Fits.{begins_with_two, is_variant_name}

-- what follows the `!` of a tag is its name
marked : (c : ℕ) (cs : List ℕ) → is_utf8 (c ∷ cs) ≡ true → local_name (33 ∷ c ∷ cs) ≡ Some (c ∷ cs)
marked c cs utf8 = rw (unproved _ _ (Decides-eqb (length (c ∷ cs)) 0) (λ e. omega (arith, e)), utf8) refl

-- the variant's name is the name of its tag
pub local_name-variant : (name : List ℕ) → is_variant_name name ≡ true → is_utf8 name ≡ true
    → local_name (local_tag name) ≡ Some name
local_name-variant [] named utf8 = absurd cc
local_name-variant (c ∷ cs) named utf8 = by (c == 33) named
  where
    by : (b : Bool) → not b ≡ true → local_name (if b then c ∷ cs else 33 ∷ c ∷ cs) ≡ Some (c ∷ cs)
    by true e = absurd cc
    by false e = marked c cs utf8

-- the tags are local
pub is_local-local_tag : (name : List ℕ) → is_local (Some (local_tag name)) ≡ true
is_local-local_tag [] = refl
is_local-local_tag (c ∷ cs) = by (c == 33) refl
  where
    by : (b : Bool) → c == 33 ≡ b → is_local (Some (if b then c ∷ cs else 33 ∷ c ∷ cs)) ≡ true
    by true e = e
    by false e = refl

pub is_local-value_tag : (s : List ℕ) → is_local (Some (value_tag s)) ≡ true
is_local-value_tag s = is_local-local_tag (tag_name s)

-- what follows an ASCII byte in a text is a text
behind : (c : ℕ) (cs : List ℕ) → c ≡ 33 → is_utf8 (c ∷ cs) ≡ true → is_utf8 cs ≡ true
behind c cs is utf8 =
    is_utf8-from_IsUtf8 cs (IsUtf8-past_char (c ∷ cs) cs 33 (IsUtf8-from_is_utf8 (c ∷ cs) utf8)
    (rw (is, encode_ascii 33 (omega arith)) refl))

-- the name of a value's tag is the name of its text
pub local_name-value : (s : List ℕ) → is_tag s ≡ true → begins_with_two s ≡ false
    → local_name (value_tag s) ≡ Some (tag_name s)
local_name-value [] tag one = absurd cc
local_name-value (c ∷ []) tag one = by (c == 33) (Decides-eqb c 33).0 refl
  where
    by : (b : Bool) → (b ≡ true → c ≡ 33) → c == 33 ≡ b
        → local_name (if b then c ∷ [] else 33 ∷ c ∷ []) ≡ Some (c ∷ [])
    by true is e = rw (is refl) refl
    by false is e = marked c [] tag
local_name-value (c ∷ d ∷ cs) tag one = by (c == 33) (Decides-eqb c 33).0 refl
  where
    by : (b : Bool) → (b ≡ true → c ≡ 33) → c == 33 ≡ b
        → local_name (local_tag (if b then d ∷ cs else c ∷ d ∷ cs)) ≡ Some (if b then d ∷ cs else c ∷ d ∷ cs)
    by true is e =
        let other : d == 33 ≡ false = rw e at one in
        rw other (marked d cs (behind c (d ∷ cs) (is refl) tag))
    by false is e = rw e (marked c (d ∷ cs) tag)

-- a text of a tag and its name are one tag
pub tag_eq-name : (s : List ℕ) → begins_with_two s ≡ false → tag_eq s (tag_name s) ≡ true
tag_eq-name s one = (bytes_eq-Decides _ _).1 (sym (twice s one))
  where
    kept : (d : ℕ) (cs : List ℕ) → d == 33 ≡ false → tag_name (d ∷ cs) ≡ d ∷ cs
    kept d [] e = refl
    kept d (x ∷ xs) e = rw e refl

    twice : (s : List ℕ) → begins_with_two s ≡ false → tag_name (tag_name s) ≡ tag_name s
    twice [] one = refl
    twice (c ∷ []) one = refl
    twice (c ∷ d ∷ cs) one = by (c == 33) refl
      where
        by : (b : Bool) → c == 33 ≡ b
            → tag_name (if b then d ∷ cs else c ∷ d ∷ cs) ≡ (if b then d ∷ cs else c ∷ d ∷ cs)
        by true e = kept d cs (rw e at one)
        by false e = rw e refl
