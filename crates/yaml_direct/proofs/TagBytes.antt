-- The bytes of a tag.
use Rattle.std.proofs.Common.{ℕ, zero, suc, ◌+◌, ◌-◌, ◌<◌, ◌≤◌, ◌≡◌, ◌&&◌, inl, inr, Bool, true}
use Rattle.std.proofs.Common.{false, List, [], ◌∷◌, refl, sym, subst, arith}
use Rattle.std.proofs.Common.{drop, get_or, length, take, nat_eq, nat_lt, codes, slice_range}
use Rattle.std.proofs.lemmas.Bool.{and_parts, eqb-true, false≢true}
use Rattle.std.proofs.lemmas.Bool.{ltb-true, or_cases}
use Rattle.std.proofs.lemmas.List.{get_or-take}
use Rattle.std.specs.List.{list_all, list_any}
use Rattle.std.specs.Prelude.{if◌then◌else◌}
use Rattle.yaml_direct.specs.Tags.{IsSimple}
use Rattle.yaml_grammar.specs.Bytes.{is_one_of}
use Rattle.yaml_grammar.specs.Names.{count_while}
use Rattle.yaml_grammar.specs.Names.{is_name_byte, is_tag_byte}

-- bytes that may stand in a tag are simple
in_list : (c : ℕ) (xs : List ℕ) → list_any (nat_eq c) xs ≡ true
    → list_all (λ x. nat_lt 0 x && nat_lt x 128) xs ≡ true → (0 < c) × (c < 128)
in_list c [] h all = absurd (false≢true h)
in_list c (x ∷ xs) h all =
    let both = and_parts (nat_lt 0 x && nat_lt x 128) _ all in
    elim (or_cases (nat_eq c x) (list_any (nat_eq c) xs) h) [
      | inl same ↦
          let e = eqb-true c x same in
          let x_is = and_parts (nat_lt 0 x) _ both.0 in
          (subst (λ n. 0 < n) (sym e) (ltb-true 0 x x_is.0), subst (λ n. n < 128) (sym e) (ltb-true x 128 x_is.1))
      | inr later ↦ in_list c xs later both.1
    ]

name_simple : (c : ℕ) → is_name_byte c ≡ true → (0 < c) × (c < 128)
name_simple c h = (grind (arith, h), grind (arith, h))

byte_simple : (whole : Bool) (c : ℕ) → is_tag_byte whole c ≡ true → (0 < c) × (c < 128)
byte_simple whole c h =
    elim (or_cases (is_name_byte c) _ h) [
      | inl name ↦ name_simple c name
      | inr other ↦ elim (or_cases (is_one_of (codes ";/?:@&=+$.~*'()%") c) _ other) [
        | inl mark ↦ in_list c (codes ";/?:@&=+$.~*'()%") mark refl
        | inr wide ↦ in_list c (codes ",[]!") (and_parts whole _ wide).1 refl
      ]
    ]

counted_simple : (whole : Bool) (xs : List ℕ) (k d : ℕ) → k < count_while (is_tag_byte whole) xs
    → (0 < get_or xs k d) × (get_or xs k d < 128)
counted_simple whole [] k d h = absurd (omega (arith, h))
counted_simple whole (x ∷ xs) k d h =
    by_byte (λ n less. counted_simple whole xs n d less) (is_tag_byte whole x) refl k h
  where
    by_byte : ((n : ℕ) → n < count_while (is_tag_byte whole) xs → (0 < get_or xs n d) × (get_or xs n d < 128))
        → (b : Bool) → is_tag_byte whole x ≡ b → (k : ℕ)
        → k < (if b then suc (count_while (is_tag_byte whole) xs) else 0)
        → (0 < get_or (x ∷ xs) k d) × (get_or (x ∷ xs) k d < 128)
    by_byte rest true e zero less = byte_simple whole x e
    by_byte rest true e (suc k) less = rest k (omega (arith, less))
    by_byte rest false e k less = absurd (omega (arith, less))

pub simple_part : (text : List ℕ) (whole : Bool) (start stop : ℕ)
    → stop ≡ start + count_while (is_tag_byte whole) (drop start text) → IsSimple (slice_range text start stop)
simple_part text whole start stop there k d inside =
    let count = count_while (is_tag_byte whole) (drop start text) in
    let less : k < count = few (stop - start) (drop start text) k inside (omega (arith, there)) in
    let same = get_or-take (stop - start) (drop start text) k d (omega (arith, less, there)) in
    let s = counted_simple whole (drop start text) k d less in
    (subst (λ c. 0 < c) (sym same) s.0, subst (λ c. c < 128) (sym same) s.1)
  where
    few : (n : ℕ) (xs : List ℕ) (k : ℕ) → k < length (take n xs) → {m : ℕ} → n ≡ m → k < m
    few n xs k h {m} e = omega (arith, h, length_take n xs, e)
      where
        length_take : (n : ℕ) (xs : List ℕ) → length (take n xs) ≤ n
        length_take zero xs = omega arith
        length_take (suc n) [] = omega arith
        length_take (suc n) (x ∷ xs) = let less = length_take n xs in omega (arith, less)
