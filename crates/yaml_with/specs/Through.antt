-- What a format reads through a deserializer.
use Rattle.std.specs.Prelude.{◌⊎◌, ℕ, List, Bool, false, ◌&&◌, MatchBool}
use Rattle.serde.specs.Event.{Event, key_begins, map_begins, seq_begins}
use Rattle.serde.specs.Steps.{Begins, Gives}
use Rattle.serde.specs.declared.deserializer.Deserializer.{Deserializer}
use Rattle.serde.specs.declared.name.Name.{Name}
use Rattle.yaml_with.specs.Asks.{asks_for_variants}

-- what a step of a deserializer read, perhaps after a look where it began a collection
abbrev pub Reads : {F E M : Type 0} → (F → List ℕ → Event → F → Type 0) → (F → F → Type 0) → Deserializer F E M → Event
    → Deserializer F E M → Type 0
Reads gives stays old (seq_begins n) new = Begins gives stays old (seq_begins n) new
Reads gives stays old (map_begins n) new = Begins gives stays old (map_begins n) new
Reads gives stays old e new = Gives gives old e new

-- a step read this, or looked and then read it, where it began a mapping
abbrev pub ReadsKeyed : {D : Type 0} → (D → Event → D → Type 0) → (D → D → Type 0) → D → Event → D → Type 0
ReadsKeyed {D} reads stays old (map_begins n) new =
    reads old (map_begins n) new ⊎ ((looked : D) × stays old looked × reads looked (map_begins n) new)
ReadsKeyed reads stays old e new = reads old e new

-- An entry came, and the variant is the one among the names that its key is.
abbrev pub NamedByKey : {D : Type 0} → (D → Event → D → Type 0) → (D → Bool → List Name → ℕ → D → Type 0) → D → List Name
    → ℕ → D → Type 0
NamedByKey {D} reads picks old names at new = (key : D) × reads old key_begins key × picks key false names at new

-- A name was picked: where a mapping was begun for a variant, and one is asked for, by the mapping's first key; else as
-- ever.
abbrev pub PicksKeyed : {D : Type 0} → (D → Event → D → Type 0) → (D → Bool → List Name → ℕ → D → Type 0)
    → (begun : Bool) → D → (is_key : Bool) → List Name → ℕ → D → Type 0
PicksKeyed reads picks begun old is_key names at new =
    MatchBool (is_key && (begun && asks_for_variants names)) (NamedByKey reads picks old names at new)
    (picks old is_key names at new)
