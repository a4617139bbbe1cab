-- Equal values have one hash, where in no mapping a key stands twice.
use Rattle.std.specs.Prelude.{◌≡◌, ℕ, zero, suc, ◌+◌, ◌%◌, ◌^◌, ◌==◌, ◌∷◌, true, false, ◌&&◌, not, refl}
use Rattle.std.specs.Hash as fed
use Rattle.std.proofs.Common.{ap, arith, sym, ◌∙◌}
use Rattle.std.proofs.lemmas.Bool.Decides.{Decides-int_eq}
use Rattle.std.proofs.lemmas.Slice.Eq.{bytes_eq-Decides}
use native.Mathlib.Nat.{mod-add-mod}
use Rattle.yaml_tree.specs.TakeOut.{from_false, and_left, and_right}
use Rattle.yaml_value.specs.Distinct.{has_key, keys_distinct, is_distinct, are_distinct, are_pairs_distinct}
use Rattle.yaml_value.specs.Find.{without_place}
use Rattle.yaml_value.specs.Hash.{hash_of, integer_hash, item_writes, pair_hash, sum_with, tagged_hash, text_hash}
use Rattle.yaml_value.specs.Hash.{written}
use Rattle.yaml_value.specs.PlainEqual.{plain_eq, items_eq, has_all_pairs, pair_passes}
use Rattle.yaml_value.specs.PlainValue.{PlainValue, null, boolean, integer, float, text, sequence, mapping, tagged}
use Rattle.yaml_value.specs.PlainValue.{PlainItems, no_items, item, PlainPairs, no_pairs, pair, pair_count}
use Rattle.yaml_value.proofs.Equivalence.{AreSymmetric, HasPair, all_kept, are-symmetric, count_is, count_without}
use Rattle.yaml_value.proofs.Equivalence.{find, none_is, not_true}
use Rattle.yaml_value.proofs.Floats.{same_float-key}

-- two numbers are added in either order
added : (n a b m : ℕ) → ((n + a) % m + b) % m ≡ ((n + b) % m + a) % m
added n a b m =
    let turned : n + a + b ≡ n + b + a = omega arith in
    mod-add-mod (n + a) m b ∙ (ap (λ x. x % m) turned ∙ sym (mod-add-mod (n + b) m a))

-- the pair in a place may be added first
sum_out : (n j : ℕ) (l w : PlainValue) (qs : PlainPairs) → HasPair j l w qs
    → sum_with n qs ≡ sum_with ((n + pair_hash (hash_of l) (hash_of w)) % 2 ^ 64) (without_place j qs)
sum_out n j l w no_pairs h = absurd h
sum_out n zero l w (pair m u qs) h =
    λ i. sum_with ((n + pair_hash (hash_of (h.0 i)) (hash_of (h.1 i))) % 2 ^ 64) qs
sum_out n (suc j) l w (pair m u qs) h =
    let first = pair_hash (hash_of m) (hash_of u) in
    let one = pair_hash (hash_of l) (hash_of w) in
    sum_out ((n + first) % 2 ^ 64) j l w qs h
    ∙ ap (λ x. sum_with x (without_place j qs)) (added n first one (2 ^ 64))

-- what is equal to a value has its hash
abbrev pub HasOneHash : PlainValue → Type 0
HasOneHash k = (l : PlainValue) → plain_eq k l ≡ true → hash_of k ≡ hash_of l

abbrev HaveOneHash : PlainPairs → Type 0
HaveOneHash no_pairs = Unit {0}
HaveOneHash (pair k v ps) = HasOneHash k × HasOneHash v × HaveOneHash ps

same_sum : (n : ℕ) (a b : PlainPairs) → HaveOneHash a → AreSymmetric a → keys_distinct a ≡ true
    → pair_count a ≡ pair_count b → has_all_pairs a b ≡ true → sum_with n a ≡ sum_with n b
same_sum n no_pairs no_pairs h s d c e = refl
same_sum n no_pairs (pair l w qs) h s d c e = absurd (omega (arith, c))
same_sum n (pair k v ps) b h s d c e =
    let r = find (plain_eq k) (plain_eq v) b (and_left _ _ e) in
    let none = none_is k r.1 ps s.2 r.4 (not_true (has_key k ps) (and_left _ _ d)) in
    let rest = all_kept r.0 r.1 r.2 b ps r.3 none (and_right (pair_passes (plain_eq k) (plain_eq v) b) _ e) in
    let fewer : pair_count ps ≡ pair_count (without_place r.0 b) = omega (arith, c, count_without r.0 r.1 r.2 b r.3) in
    let more = (n + pair_hash (hash_of k) (hash_of v)) % 2 ^ 64 in
    same_sum more ps (without_place r.0 b) h.2 s.2 (and_right (not (has_key k ps)) _ d) fewer rest
    ∙ ((λ i. sum_with ((n + pair_hash (h.0 r.1 r.4 i) (h.1 r.2 r.5 i)) % 2 ^ 64) (without_place r.0 b))
    ∙ sym (sum_out n r.0 r.1 r.2 b r.3))

mutual
  pub same_hash : (a b : PlainValue) → is_distinct a ≡ true → plain_eq a b ≡ true → hash_of a ≡ hash_of b
  same_hash null null d e = refl
  same_hash (boolean true) (boolean true) d e = refl
  same_hash (boolean true) (boolean false) d e = from_false e
  same_hash (boolean false) (boolean true) d e = from_false e
  same_hash (boolean false) (boolean false) d e = refl
  same_hash (integer a) (integer b) d e = ap integer_hash ((Decides-int_eq a b).0 e)
  same_hash (float a) (float b) d e = ap (λ n. written (fed.u64 n)) (same_float-key a b e)
  same_hash (text a) (text b) d e = ap text_hash ((bytes_eq-Decides a b).0 e)
  same_hash (sequence a) (sequence b) d e = ap written (same_writes a b d e)
  same_hash (mapping a) (mapping b) d e =
      let pairs = and_right (keys_distinct a) (are_pairs_distinct a) d in
      same_sum 4 a b (have_one_hash a pairs) (are-symmetric a pairs) (and_left _ _ d)
      (count_is (pair_count a) (pair_count b) (and_left _ _ e)) (and_right (pair_count a == pair_count b) _ e)
  same_hash (tagged s a) (tagged t b) d e =
      λ i. tagged_hash ((bytes_eq-Decides s t).0 (and_left _ _ e) i)
      (same_hash a b d (and_right _ (plain_eq a b) e) i)
  same_hash _ _ d e = from_false e

  same_writes : (a b : PlainItems) → are_distinct a ≡ true → items_eq a b ≡ true → item_writes a ≡ item_writes b
  same_writes no_items no_items d e = refl
  same_writes (item a xs) (item b ys) d e =
      λ i. fed.le_bytes 8 (same_hash a b (and_left _ _ d) (and_left _ _ e) i)
      ∷ same_writes xs ys (and_right (is_distinct a) _ d) (and_right (plain_eq a b) _ e) i
  same_writes no_items (item b ys) d e = from_false e
  same_writes (item a xs) no_items d e = from_false e

  have_one_hash : (ps : PlainPairs) → are_pairs_distinct ps ≡ true → HaveOneHash ps
  have_one_hash no_pairs d = tt
  have_one_hash (pair k v ps) d =
      let more = and_right (is_distinct k) (is_distinct v && are_pairs_distinct ps) d in (
        λ l e. same_hash k l (and_left _ _ d) e,
        λ w e. same_hash v w (and_left _ _ more) e,
        have_one_hash ps (and_right (is_distinct v) _ more),
      )
