-- Data without where it lies in memory.
use Rattle.std.specs.Prelude.{ℕ, ℤ, List, Bool}
use Rattle.yaml_tree.specs.Tree.{Tree}

-- data of a shape; of a text it is known whether the source lends it
mutual
  pub data PlainData : Type 0 where
    any_data : Tree → PlainData
    bool_data : Bool → PlainData
    char_data : ℕ → PlainData
    signed_data : ℤ → PlainData
    unsigned_data : ℕ → PlainData
    text_data : (lent : Bool) → List ℕ → PlainData
    bytes_data : List ℕ → PlainData
    none_data : PlainData
    some_data : (content : PlainData) → PlainData
    unit_data : PlainData
    newtype_data : (content : PlainData) → PlainData
    seq_data : PlainItems → PlainData
    tuple_data : PlainItems → PlainData
    map_data : PlainEntries → PlainData
    struct_data : PlainItems → PlainData
    variant_data : (place : ℕ) → (content : PlainData) → PlainData
    ignored_data : PlainData

  pub data PlainItems : Type 0 where
    no_items : PlainItems
    item : PlainData → PlainItems → PlainItems

  pub data PlainEntries : Type 0 where
    no_entries : PlainEntries
    entry : (key : PlainData) → (value : PlainData) → PlainEntries → PlainEntries
