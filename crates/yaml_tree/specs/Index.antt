-- The index of a mapping: chains of entries whose keys' hashes leave one remainder, kept in the entries themselves.
use Rattle.std.specs.Prelude.{◌≡◌, ℕ, zero, suc, ◌-◌, ◌<◌, ◌≤◌, ◌%◌, ◌^◌, ◌==◌}
use Rattle.std.specs.Prelude.{nat_lt, if◌then◌else◌, List, length, map, slice_index_or}
use Rattle.std.specs.Int.{leading_zeros, w64}
use Rattle.yaml_tree.specs.Hash.{hash_of}
use Rattle.yaml_tree.specs.View.{tree_of}
use Rattle.yaml_tree.specs.declared.mapping.Entry.{Entry}

-- how many chains so many entries have: none while they are few, and else the greatest power of 2 that is no more
abbrev pub chain_count : ℕ → ℕ
chain_count n = if nat_lt n 16 then 0 else 2 ^ (63 - leading_zeros w64 n)

-- one more than the last place before this one in a chain, or 0, where a function says which chain each place is in
abbrev pub last_before : (ℕ → ℕ) → ℕ → ℕ → ℕ
last_before chain zero c = 0
last_before chain (suc i) c = if chain i == c then suc i else last_before chain i c

-- the chain of a place, among so many, from the hashes of the keys
abbrev pub chain_at : ℕ → List ℕ → ℕ → ℕ
chain_at size hashes i = slice_index_or hashes i 0 % size

-- of so many first places, each chain's last one and the one before each in its chain are known
abbrev pub AreChains : ℕ → ℕ → List ℕ → List ℕ → List ℕ → Type 0
AreChains size count lasts earliers hashes =
    ((c : ℕ) → c < size → slice_index_or lasts c 0 ≡ last_before (chain_at size hashes) count c)
    × ((i : ℕ) → i < count
    → slice_index_or earliers i 0 ≡ last_before (chain_at size hashes) i (chain_at size hashes i))

-- the first numbers that entries keep for the chains
abbrev pub lasts_of : List Entry → List ℕ
lasts_of es = map (λ e. e.last) es

-- the second ones
abbrev pub earliers_of : List Entry → List ℕ
earliers_of es = map (λ e. e.earlier) es

-- the hashes of the keys
abbrev pub hashes_of : List Entry → List ℕ
hashes_of es = map (λ e. hash_of (tree_of e.key)) es

-- so many first entries are in chains
abbrev pub IsChained : ℕ → ℕ → List Entry → Type 0
IsChained size count es = AreChains size count (lasts_of es) (earliers_of es) (hashes_of es)

-- so many first entries are in their chains, where so many have any
abbrev pub IsIndexedTo : ℕ → List Entry → Type 0
IsIndexedTo count es =
    0 < chain_count count → (chain_count count ≤ count) × IsChained (chain_count count) count es

-- the entries are in their chains
abbrev pub IsIndexed : List Entry → Type 0
IsIndexed es = IsIndexedTo (length es) es
