-- By which messages data is refused that has parts: by that of the first part that is refused.
use Rattle.std.specs.Prelude.{ℕ, List, ◌⊎◌}
use Rattle.yaml_shape.specs.PlainData.{PlainData, PlainItems, PlainEntries, some_data, seq_data, map_data}
use Rattle.yaml_shape.specs.PlainData.{no_items, item, no_entries, entry}
use Rattle.yaml_types.specs.BuiltParts.{IsBuilt}

-- the content is refused
abbrev pub RefusedOption : (PlainData → List ℕ → Type 0) → PlainData → List ℕ → Type 0
RefusedOption refused (some_data d) message = refused d message
RefusedOption refused _ message = ⊥

-- the first item is refused, or it is built and the others are refused
abbrev pub RefusedItems : {T : Type 0} → (PlainData → T → Type 0) → (PlainData → List ℕ → Type 0) → PlainItems
    → List ℕ → Type 0
RefusedItems built refused no_items message = ⊥
RefusedItems built refused (item d ds) message =
    refused d message ⊎ (IsBuilt built d × RefusedItems built refused ds message)

-- an element is refused
abbrev pub RefusedSeq : {T : Type 0} → (PlainData → T → Type 0) → (PlainData → List ℕ → Type 0) → PlainData
    → List ℕ → Type 0
RefusedSeq built refused (seq_data ds) message = RefusedItems built refused ds message
RefusedSeq built refused _ message = ⊥

-- the key is refused, or it is built and the value is refused
abbrev pub RefusedBoth : {K : Type 0} → (PlainData → K → Type 0) → (PlainData → List ℕ → Type 0)
    → (PlainData → List ℕ → Type 0) → PlainData × PlainData → List ℕ → Type 0
RefusedBoth built key value d message = key d.0 message ⊎ (IsBuilt built d.0 × value d.1 message)

-- the first key is refused, or it is built and its value is refused, or both are built and the others are refused
abbrev pub RefusedEntries : {K V : Type 0} → (PlainData → K → Type 0) → (PlainData → V → Type 0)
    → (PlainData → List ℕ → Type 0) → (PlainData → List ℕ → Type 0) → PlainEntries → List ℕ → Type 0
RefusedEntries built_key built_value key value no_entries message = ⊥
RefusedEntries built_key built_value key value (entry k v es) message =
    key k message ⊎ (IsBuilt built_key k
    × (value v message ⊎ (IsBuilt built_value v × RefusedEntries built_key built_value key value es message)))

-- a key or a value is refused
abbrev pub RefusedMap : {K V : Type 0} → (PlainData → K → Type 0) → (PlainData → V → Type 0)
    → (PlainData → List ℕ → Type 0) → (PlainData → List ℕ → Type 0) → PlainData → List ℕ → Type 0
RefusedMap built_key built_value key value (map_data es) message =
    RefusedEntries built_key built_value key value es message
RefusedMap built_key built_value key value _ message = ⊥
