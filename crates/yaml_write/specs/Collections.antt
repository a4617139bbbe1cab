-- Collections that are open, without where they lie in memory.
use Rattle.std.specs.Prelude.{Bool}

-- what a collection was opened as
pub data CollectionKind : Type 0 where
  seq_kind : CollectionKind
  tuple_kind : CollectionKind
  tuple_struct_kind : CollectionKind
  tuple_variant_kind : CollectionKind
  map_kind : CollectionKind
  struct_kind : CollectionKind
  struct_variant_kind : CollectionKind

-- an open collection: what it was opened as, and whether it awaits the value of a key
pub record OpenCollection : Type 0 where
  pub kind : CollectionKind
  pub awaits_value : Bool
