-- The plain data of the collections that a serializer has open.
use Rattle.std.specs.Prelude.{List, map, reverse, Bool, Option}
use Rattle.std.specs.Option.{option_map}
use Rattle.yaml_write.specs.Collections.{CollectionKind, seq_kind, tuple_kind, tuple_struct_kind, tuple_variant_kind}
use Rattle.yaml_write.specs.Collections.{map_kind, struct_kind, struct_variant_kind, OpenCollection}
use Rattle.yaml_write.specs.declared.open.Open.{Open}
use Rattle.yaml_write.specs.declared.open.OpenKind.{OpenKind}
use Rattle.yaml_write.specs.declared.open.OpenKind.TheVariants.{Seq, Tuple, TupleStruct, TupleVariant, Map, Struct}
use Rattle.yaml_write.specs.declared.open.OpenKind.TheVariants.{StructVariant}

-- what a collection of this kind was opened as
abbrev pub collection_kind : OpenKind → CollectionKind
collection_kind Seq = seq_kind
collection_kind Tuple = tuple_kind
collection_kind TupleStruct = tuple_struct_kind
collection_kind TupleVariant = tuple_variant_kind
collection_kind Map = map_kind
collection_kind Struct = struct_kind
collection_kind StructVariant = struct_variant_kind

-- the open collection
abbrev pub open_collection : Open → OpenCollection
open_collection o = record { kind = collection_kind o.kind; awaits_value = o.awaits_value }

-- the open collections, the innermost first: they lie in memory the outermost first
abbrev pub open_collections : List Open → List OpenCollection
open_collections os = map open_collection (reverse os)

-- what is told of the innermost open collection
abbrev pub told : Option (OpenKind × Bool) → Option (CollectionKind × Bool)
told = option_map (λ found. (collection_kind found.0, found.1))
