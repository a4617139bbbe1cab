-- Chains of places: what is left of one, what it passes over, and one more place in it.
use Rattle.std.specs.Prelude.{◌≡◌, ℕ, zero, suc, ◌+◌, ◌-◌, ◌*◌, ◌^◌, ◌<◌, ◌≤◌, ◌≢◌, ◌==◌, ◌%◌, ◌++◌, ◌∷◌, []}
use Rattle.std.specs.Prelude.{Bool, true, false, if◌then◌else◌, List, length, refl, ◌⊎◌}
use Rattle.std.proofs.Common.{ap, arith, sym, ◌∙◌, get_or, set, subst, inl, inr, eq-or-lt_of_le}
use Rattle.std.proofs.lemmas.Bool.Decides.{eqb_tells}
use Rattle.std.proofs.lemmas.Nat.{leading_top, mod_below, one_shl}
use Rattle.std.specs.Int.Count.{count_leading_zeros}
use Rattle.std.proofs.lemmas.List.{get_or-set_same, get_or-set_other, get_or_append_left}
use Rattle.yaml_tree.specs.Index.{last_before, chain_at, AreChains}

-- ---- how many chains there are
-- the greatest power of 2 that is no more than a number, from the zeros ahead of its bits, is no more than it
pub power-le : (n : ℕ) → 16 ≤ n → n < 2 ^ 64 → (1 * 2 ^ (63 - count_leading_zeros 64 n)) % 2 ^ 64 ≤ n
power-le n some fits =
    let top = leading_top 64 n (omega (arith, some)) fits in
    let j : 63 - count_leading_zeros 64 n ≡ top.0 = omega (arith, top.1) in
    let power : (1 * 2 ^ (63 - count_leading_zeros 64 n)) % 2 ^ 64 ≡ 2 ^ top.0 =
    ap (λ k. (1 * 2 ^ k) % 2 ^ 64) j ∙ one_shl top.0 64 (omega (arith, top.1)) in
    omega (arith, power, top.2)

-- ---- the last place of a chain before another place
-- where a test says whether the place before is in the chain
abbrev last_by : Bool → (ℕ → ℕ) → ℕ → ℕ → ℕ
last_by b chain i c = if b then suc i else last_before chain i c

last_by-le : (b : Bool) (chain : ℕ → ℕ) (i c : ℕ) → last_before chain i c ≤ i → last_by b chain i c ≤ suc i
last_by-le true chain i c h = omega arith
last_by-le false chain i c h = omega (arith, h)

-- it is before that place
pub last_before-le : (chain : ℕ → ℕ) (n c : ℕ) → last_before chain n c ≤ n
last_before-le chain zero c = omega arith
last_before-le chain (suc i) c = last_by-le (chain i == c) chain i c (last_before-le chain i c)

-- this is what is left of a chain
abbrev pub IsLeft : (ℕ → ℕ) → ℕ → ℕ → Type 0
IsLeft chain c n = n ≡ last_before chain n c

left_by : (b : Bool) (chain : ℕ → ℕ) (i c : ℕ) → (chain i == c) ≡ b → IsLeft chain c (last_before chain i c)
    → IsLeft chain c (last_by b chain i c)
left_by true chain i c e h = sym (ap (λ t. last_by t chain i c) e)
left_by false chain i c e h = h

-- the last place of a chain is what is left of it
pub left-last : (chain : ℕ → ℕ) (n c : ℕ) → IsLeft chain c (last_before chain n c)
left-last chain zero c = refl
left-last chain (suc i) c = left_by (chain i == c) chain i c refl (left-last chain i c)

chain-left_by : (b : Bool) (chain : ℕ → ℕ) (i c : ℕ) → (chain i == c) ≡ b → suc i ≡ last_by b chain i c
    → (chain i == c) ≡ true
chain-left_by true chain i c e h = e
chain-left_by false chain i c e h = absurd (omega (arith, h, last_before-le chain i c))

-- what is left of a chain ends with a place in it
pub chain-left : (chain : ℕ → ℕ) (i c : ℕ) → IsLeft chain c (suc i) → (chain i == c) ≡ true
chain-left chain i c h = chain-left_by (chain i == c) chain i c refl h

-- the places from one on up to another are in other chains
abbrev pub IsGap : (ℕ → ℕ) → ℕ → ℕ → ℕ → Type 0
IsGap chain c from n = (j : ℕ) → from ≤ j → j < n → (chain j == c) ≡ false

gap_at : (chain : ℕ → ℕ) (c i j : ℕ) → (chain i == c) ≡ false → (j ≡ i) ⊎ (j < i) → (j < i → (chain j == c) ≡ false)
    → (chain j == c) ≡ false
gap_at chain c i j e (inl is) h = ap (λ x. chain x == c) is ∙ e
gap_at chain c i j e (inr lt) h = h lt

gap_by : (b : Bool) (chain : ℕ → ℕ) (i c : ℕ) → (chain i == c) ≡ b → IsGap chain c (last_before chain i c) i
    → IsGap chain c (last_by b chain i c) (suc i)
gap_by true chain i c e h j from lt = absurd (omega (arith, from, lt))
gap_by false chain i c e h j from lt =
    gap_at chain c i j e (eq-or-lt_of_le {n = j} {m = i} (omega (arith, lt))) (λ less. h j from less)

-- between the last place of a chain and the end there is no place in it
pub gap-last : (chain : ℕ → ℕ) (n c : ℕ) → IsGap chain c (last_before chain n c) n
gap-last chain zero c = λ j from lt. absurd (omega (arith, lt))
gap-last chain (suc i) c = gap_by (chain i == c) chain i c refl (gap-last chain i c)

last_before_by : (b : Bool) (chain other : ℕ → ℕ) (i c : ℕ) → last_before chain i c ≡ last_before other i c
    → last_by b chain i c ≡ last_by b other i c
last_before_by true chain other i c h = refl
last_before_by false chain other i c h = h

-- it depends on the chains of the places before it alone
pub last_before-alike : (chain other : ℕ → ℕ) (n c : ℕ) → ((j : ℕ) → j < n → chain j ≡ other j)
    → last_before chain n c ≡ last_before other n c
last_before-alike chain other zero c h = refl
last_before-alike chain other (suc i) c h =
    last_before_by (chain i == c) chain other i c (last_before-alike chain other i c (λ j lt. h j (omega (arith, lt))))
    ∙ ap (λ x. last_by (x == c) other i c) (h i (omega arith))

-- ---- one more place in its chain
-- whether two numbers are one
abbrev IsTold : Bool → ℕ → ℕ → Type 0
IsTold b x y = ((b ≡ true) × (x ≡ y)) ⊎ ((b ≡ false) × (x ≢ y))

lasts-next : (size i c : ℕ) (lasts hashes : List ℕ) → c < size → size ≤ length lasts
    → get_or lasts c 0 ≡ last_before (chain_at size hashes) i c
    → (b : Bool) → IsTold b (chain_at size hashes i) c
    → get_or (set lasts (chain_at size hashes i) (suc i)) c 0 ≡ last_by b (chain_at size hashes) i c
lasts-next size i c lasts hashes lt le before b (inl t) =
    ap (λ x. get_or (set lasts x (suc i)) c 0) t.1
    ∙ (get_or-set_same lasts c (suc i) 0 (omega (arith, lt, le))
    ∙ sym (ap (λ x. last_by x (chain_at size hashes) i c) t.0))
lasts-next size i c lasts hashes lt le before b (inr t) =
    get_or-set_other lasts (chain_at size hashes i) c (suc i) 0 (λ e. t.1 (sym e))
    ∙ (before ∙ sym (ap (λ x. last_by x (chain_at size hashes) i c) t.0))

earliers-next : (i j x y : ℕ) (earliers : List ℕ) → i < length earliers → (j ≡ i) ⊎ (j < i)
    → (j ≡ i → x ≡ y) → (j < i → get_or earliers j 0 ≡ y) → get_or (set earliers i x) j 0 ≡ y
earliers-next i j x y earliers lt (inl is) same before =
    ap (λ n. get_or (set earliers i x) n 0) is ∙ (get_or-set_same earliers i x 0 lt ∙ same is)
earliers-next i j x y earliers lt (inr less) same before =
    get_or-set_other earliers i j x 0 (λ e. omega (arith, e, less)) ∙ before less

chains-next_suc : (size i : ℕ) (lasts earliers hashes : List ℕ) → 0 < size → size ≤ length lasts → i < length earliers
    → AreChains size i lasts earliers hashes
    → AreChains size (suc i) (set lasts (chain_at size hashes i) (suc i))
    (set earliers i (get_or lasts (chain_at size hashes i) 0)) hashes
chains-next_suc size i lasts earliers hashes some le lt before =
    let chain = chain_at size hashes in
    let last = before.0 (chain i) (mod_below (get_or hashes i 0) size some) in (
      λ c less.
          lasts-next size i c lasts hashes less le (before.0 c less) (chain i == c) (eqb_tells (chain i) c),
      λ j less.
          earliers-next i j (get_or lasts (chain i) 0) (last_before chain j (chain j)) earliers lt
          (eq-or-lt_of_le {n = j} {m = i} (omega (arith, less)))
          (λ is. last ∙ ap (λ n. last_before chain n (chain n)) (sym is))
          (λ earlier. before.1 j earlier),
    )

-- the next place behind its chain's last one
pub chains-next : (size i : ℕ) (lasts earliers hashes : List ℕ) → 0 < size → size ≤ length lasts → i < length earliers
    → AreChains size i lasts earliers hashes
    → AreChains size (i + 1) (set lasts (chain_at size hashes i) (i + 1))
    (set earliers i (get_or lasts (chain_at size hashes i) 0)) hashes
chains-next size i lasts earliers hashes some le lt before =
    let next : suc i ≡ i + 1 = omega arith in
    subst (λ n. AreChains size n (set lasts (chain_at size hashes i) n)
    (set earliers i (get_or lasts (chain_at size hashes i) 0)) hashes) next
    (chains-next_suc size i lasts earliers hashes some le lt before)

-- ---- one more place in no chain
-- with one more number at the end of each list, the first places are in their chains as before
pub chains-more : (size n x y z : ℕ) (lasts earliers hashes : List ℕ) → size ≤ n → length lasts ≡ n
    → length earliers ≡ n → length hashes ≡ n → AreChains size n lasts earliers hashes
    → AreChains size n (lasts ++ x ∷ []) (earliers ++ y ∷ []) (hashes ++ z ∷ [])
chains-more size n x y z lasts earliers hashes le a b c before =
    let alike : (j : ℕ) → j < n → chain_at size hashes j ≡ chain_at size (hashes ++ z ∷ []) j =
    λ j lt. ap (λ h. h % size) (sym (get_or_append_left hashes (z ∷ []) 0 j (omega (arith, lt, c)))) in (
      λ k lt.
          get_or_append_left lasts (x ∷ []) 0 k (omega (arith, lt, le, a))
          ∙ (before.0 k lt
          ∙ last_before-alike (chain_at size hashes) (chain_at size (hashes ++ z ∷ [])) n k alike),
      λ j lt.
          get_or_append_left earliers (y ∷ []) 0 j (omega (arith, lt, b))
          ∙ (before.1 j lt
          ∙ (last_before-alike (chain_at size hashes) (chain_at size (hashes ++ z ∷ [])) j (chain_at size hashes j)
          (λ k less. alike k (omega (arith, lt, less)))
          ∙ ap (last_before (chain_at size (hashes ++ z ∷ [])) j) (alike j lt))),
    )
