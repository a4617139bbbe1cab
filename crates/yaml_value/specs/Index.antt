-- The index of a mapping: chains of entries whose keys' hashes leave one remainder, kept in the entries themselves.
use Rattle.std.specs.Prelude.{◌≡◌, ℕ, ◌<◌, ◌≤◌, ◌%◌, true, List, [], ◌∷◌, length, map}
use Rattle.yaml_tree.specs.Index.{AreChains, chain_at, chain_count, last_before}
use Rattle.yaml_value.specs.Distinct.{keys_distinct}
use Rattle.yaml_value.specs.Hash.{hash_of}
use Rattle.yaml_value.specs.PlainValue.{PlainPairs, no_pairs, pair}
use Rattle.yaml_value.specs.View.{entry_pairs}
use Rattle.yaml_value.specs.declared.mapping.Entry.{Entry}

-- the first numbers that entries keep for the chains
abbrev pub lasts_of : List Entry → List ℕ
lasts_of es = map (λ e. e.last) es

-- the second ones
abbrev pub earliers_of : List Entry → List ℕ
earliers_of es = map (λ e. e.earlier) es

-- the hashes of the keys
abbrev pub key_hashes : PlainPairs → List ℕ
key_hashes no_pairs = []
key_hashes (pair k v ps) = hash_of k ∷ key_hashes ps

-- so many first entries are in chains, of which there are so many
abbrev pub IsChained : (size : ℕ) → (count : ℕ) → List Entry → Type 0
IsChained size count es = AreChains size count (lasts_of es) (earliers_of es) (key_hashes (entry_pairs es))

-- so many first entries are in their chains, where so many have any
abbrev pub IsIndexedTo : ℕ → List Entry → Type 0
IsIndexedTo count es =
    0 < chain_count count → (chain_count count ≤ count) × IsChained (chain_count count) count es

-- the entries are in their chains
abbrev pub IsIndexed : List Entry → Type 0
IsIndexed es = IsIndexedTo (length es) es

-- where the chain of a hash ends, by one more than the place
abbrev pub chain_end : ℕ → List Entry → ℕ
chain_end hash es =
    let size = chain_count (length es) in
    last_before (chain_at size (key_hashes (entry_pairs es))) (length es) (hash % size)

-- the entries are in their chains, and no two keys are equal
abbrev pub IsSound : List Entry → Type 0
IsSound es = IsIndexed es × (keys_distinct (entry_pairs es) ≡ true)
