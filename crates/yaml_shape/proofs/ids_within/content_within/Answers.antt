-- Whether the content of a variant names only numbers in the table.
use Rattle.std.proofs.Common.{◌<◌}
use Rattle.yaml_shape.proofs.NumberLaws.{tests_mapped, tests_fields}
use Rattle.yaml_shape.proofs.ids_within.content_within.Goals as goal

pub returns-in-Tuple : goal.returns-in-Tuple
returns-in-Tuple c =
    rw c.in-Tuple.is (rw (← c.deref.ensures.value)
    (tests_mapped (λ id. id < c.args.size)
    (λ id. id.0) c.deref.result.now c.all_within.result c.all_within.ensures))

pub returns-in-Struct : goal.returns-in-Struct
returns-in-Struct c =
    rw c.in-Struct.is (rw (← c.deref-in-Struct.ensures.value)
    (tests_fields c.args.size c.deref-in-Struct.result.now c.fields_within.result c.fields_within.ensures))

pub returns-in-StrictStruct : goal.returns-in-StrictStruct
returns-in-StrictStruct c =
    rw c.in-StrictStruct.is (rw (← c.deref-in-StrictStruct.ensures.value)
    (tests_fields c.args.size c.deref-in-StrictStruct.result.now c.fields_within-in-StrictStruct.result
    c.fields_within-in-StrictStruct.ensures))
