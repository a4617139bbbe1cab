-- The numbers in a variant's content are small.
use Rattle.std.proofs.Common.{◌<◌, All, subst}
use Rattle.yaml_shape.specs.ShapeView.{content_of}
use Rattle.yaml_shape.specs.Validity.{named_in}
use Rattle.yaml_shape.proofs.NumberLaws.{All-from_map, All-from_fields}
use Rattle.yaml_shape.proofs.moved_shapes.raise_content.Goals as goal

pub raise_ids-requires-clause-small : goal.raise_ids-requires-clause-small
raise_ids-requires-clause-small c =
    All-from_map (λ id. id < 4096) (λ id. id.0) c.in-Tuple.items.items
    (subst (λ v. All (λ id. id < 4096) (named_in (content_of v))) c.in-Tuple.is c.requires.small)

pub raise_fields-requires-clause-small : goal.raise_fields-requires-clause-small
raise_fields-requires-clause-small c =
    All-from_fields (λ id. id < 4096) c.in-Struct.fields.items
    (subst (λ v. All (λ id. id < 4096) (named_in (content_of v))) c.in-Struct.is c.requires.small)

pub raise_fields-requires-in-StrictStruct-clause-small : goal.raise_fields-requires-in-StrictStruct-clause-small
raise_fields-requires-in-StrictStruct-clause-small c =
    All-from_fields (λ id. id < 4096) c.in-StrictStruct.fields.items
    (subst (λ v. All (λ id. id < 4096) (named_in (content_of v))) c.in-StrictStruct.is c.requires.small)
