-- The numbers in a shape are small.
use Rattle.std.proofs.Common.{◌<◌, subst}
use Rattle.yaml_shape.specs.ShapeView.{shape_of}
use Rattle.yaml_shape.specs.Validity.{NamesWithin}
use Rattle.yaml_shape.proofs.NumberLaws.{All-from_map, All-from_fields, All-from_variants}
use Rattle.yaml_shape.proofs.moved_shapes.raise_shape.Goals as goal

pub raise_ids-requires-clause-small : goal.raise_ids-requires-clause-small
raise_ids-requires-clause-small c =
    All-from_map (λ id. id < 4096) (λ id. id.0) c.in-Tuple.items.items
    (subst (λ s. NamesWithin 4096 (shape_of s)) c.in-Tuple.is c.requires.small)

pub raise_ids-requires-in-TupleStruct-clause-small : goal.raise_ids-requires-in-TupleStruct-clause-small
raise_ids-requires-in-TupleStruct-clause-small c =
    All-from_map (λ id. id < 4096) (λ id. id.0) c.in-TupleStruct.items.items
    (subst (λ s. NamesWithin 4096 (shape_of s)) c.in-TupleStruct.is c.requires.small)

pub raise_fields-requires-clause-small : goal.raise_fields-requires-clause-small
raise_fields-requires-clause-small c =
    All-from_fields (λ id. id < 4096) c.in-Struct.fields.items
    (subst (λ s. NamesWithin 4096 (shape_of s)) c.in-Struct.is c.requires.small)

pub raise_fields-requires-in-StrictStruct-clause-small : goal.raise_fields-requires-in-StrictStruct-clause-small
raise_fields-requires-in-StrictStruct-clause-small c =
    All-from_fields (λ id. id < 4096) c.in-StrictStruct.fields.items
    (subst (λ s. NamesWithin 4096 (shape_of s)) c.in-StrictStruct.is c.requires.small)

pub raise_variants-requires-clause-small : goal.raise_variants-requires-clause-small
raise_variants-requires-clause-small c =
    All-from_variants (λ id. id < 4096) c.in-Enum.variants.items
    (subst (λ s. NamesWithin 4096 (shape_of s)) c.in-Enum.is c.requires.small)
