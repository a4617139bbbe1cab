-- The data of values that have parts.
use Rattle.std.specs.Prelude.{List, map, Option, Some, None, All}
use Rattle.std.specs.BTreeMap.{BTreeMap, IsOrdered}
use Rattle.std.specs.declared.cmp.Ordering.{Ordering}
use Rattle.yaml_shape.specs.DataView.{items_of, entries_of}
use Rattle.yaml_shape.specs.PlainData.{PlainData, PlainEntries, none_data, some_data, seq_data, tuple_data, map_data}

-- nothing, or the content
abbrev pub option_written : {T : Type 0} → (T → PlainData) → Option T → PlainData
option_written written None = none_data
option_written written (Some x) = some_data (written x)

-- the elements, in order
abbrev pub seq_written : {T : Type 0} → (T → PlainData) → List T → PlainData
seq_written written xs = seq_data (items_of (map written xs))

-- the elements of an array, in order
abbrev pub array_written : {T : Type 0} → (T → PlainData) → List T → PlainData
array_written written xs = tuple_data (items_of (map written xs))

-- the pairs, in the order of their keys
abbrev pub pairs_written : {K V : Type 0} → (K → PlainData) → (V → PlainData) → List (K × V) → PlainEntries
pairs_written key value pairs = entries_of (map (λ p. (key p.0, value p.1)) pairs)

-- the pairs as a mapping
abbrev pub map_written : {K V : Type 0} → (K → PlainData) → (V → PlainData) → List (K × V) → PlainData
map_written key value pairs = map_data (pairs_written key value pairs)

-- each pair keeps what its key and its value do
abbrev pub PairsKeep : {K V : Type 0} → (K → Type 0) → (V → Type 0) → List (K × V) → Type 0
PairsKeep key value pairs = All (λ p. key p.0 × value p.1) pairs

-- each pair keeps what its key and its value do, and the keys ascend
abbrev pub MapKeeps : {K V : Type 0} → (K → K → Ordering) → (K → Type 0) → (V → Type 0) → BTreeMap K V → Type 0
MapKeeps cmp key value m = PairsKeep key value m.entries × IsOrdered cmp m
