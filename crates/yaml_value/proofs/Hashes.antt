-- Hashes part by part.
use Rattle.std.specs.Prelude.{◌≡◌, ℕ, ◌+◌, ◌<◌, ◌%◌, ◌^◌, List, length}
use Rattle.std.specs.List.{fold}
use Rattle.std.specs.Hash as fed
use Rattle.std.proofs.Common.{ap, sym, ◌∙◌, get_or, drop}
use Rattle.std.proofs.lemmas.List.{drop_more}
use Rattle.yaml_value.specs.Hash.{hash_of, item_writes, pair_hash, sum_with}
use Rattle.yaml_value.specs.View.{entry_pairs, plain, plain_entry, plain_items}
use Rattle.yaml_value.specs.declared.mapping.Entry.{Entry}
use Rattle.yaml_value.specs.declared.value.Value.{Value}

pub writes-step : {H : Type 0} (step : H → List ℕ → H) (h new : H) (xs : List Value) (i : ℕ) (x : Value) (n : ℕ)
    → i < length xs → x ≡ get_or xs i x → n ≡ hash_of (plain x) → new ≡ fold step h (fed.u64 n)
    → fold step new (item_writes (plain_items (drop (i + 1) xs))) ≡ fold step h (item_writes (plain_items (drop i xs)))
writes-step step h new xs i x n lt is hash next =
    let rest = item_writes (plain_items (drop (i + 1) xs)) in
    let same : n ≡ hash_of (plain (get_or xs i x)) = hash ∙ ap (λ y. hash_of (plain y)) is in
    ap (λ g. fold step g rest) next
    ∙ (ap (λ m. fold step (step h (fed.le_bytes 8 m)) rest) same
    ∙ sym (ap (λ ys. fold step h (item_writes (plain_items ys))) (drop_more xs i x lt)))

pub sum-step : (n new m : ℕ) (xs : List Entry) (i : ℕ) (x : Entry) → i < length xs → x ≡ get_or xs i x
    → m ≡ pair_hash (hash_of (plain_entry x).0) (hash_of (plain_entry x).1) → new ≡ (n + m) % 2 ^ 64
    → sum_with new (entry_pairs (drop (i + 1) xs)) ≡ sum_with n (entry_pairs (drop i xs))
sum-step n new m xs i x lt is hash next =
    let rest = entry_pairs (drop (i + 1) xs) in
    let same : m ≡ pair_hash (hash_of (plain_entry (get_or xs i x)).0) (hash_of (plain_entry (get_or xs i x)).1) =
    hash ∙ ap (λ y. pair_hash (hash_of (plain_entry y).0) (hash_of (plain_entry y).1)) is in
    ap (λ k. sum_with k rest) next
    ∙ (ap (λ h. sum_with ((n + h) % 2 ^ 64) rest) same
    ∙ sym (ap (λ ys. sum_with n (entry_pairs ys)) (drop_more xs i x lt)))
