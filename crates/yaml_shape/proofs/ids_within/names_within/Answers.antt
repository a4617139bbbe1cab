-- Whether a shape names only numbers in the table.
use Rattle.std.proofs.Common.{◌<◌}
use Rattle.yaml_shape.proofs.NumberLaws.{tests_mapped, tests_fields, tests_variants}
use Rattle.yaml_shape.proofs.ids_within.names_within.Goals as goal

pub returns-in-Tuple : goal.returns-in-Tuple
returns-in-Tuple c =
    rw c.in-Tuple.is (rw (← c.deref.ensures.value)
    (tests_mapped (λ id. id < c.args.size)
    (λ id. id.0) c.deref.result.now c.all_within.result c.all_within.ensures))

pub returns-in-TupleStruct : goal.returns-in-TupleStruct
returns-in-TupleStruct c =
    rw c.in-TupleStruct.is (rw (← c.deref-in-TupleStruct.ensures.value)
    (tests_mapped (λ id. id < c.args.size)
    (λ id. id.0) c.deref-in-TupleStruct.result.now c.all_within-in-TupleStruct.result
    c.all_within-in-TupleStruct.ensures))

pub returns-in-Struct : goal.returns-in-Struct
returns-in-Struct c =
    rw c.in-Struct.is (rw (← c.deref-in-Struct.ensures.value)
    (tests_fields c.args.size c.deref-in-Struct.result.now c.fields_within.result c.fields_within.ensures))

pub returns-in-StrictStruct : goal.returns-in-StrictStruct
returns-in-StrictStruct c =
    rw c.in-StrictStruct.is (rw (← c.deref-in-StrictStruct.ensures.value)
    (tests_fields c.args.size c.deref-in-StrictStruct.result.now c.fields_within-in-StrictStruct.result
    c.fields_within-in-StrictStruct.ensures))

pub returns-in-Enum : goal.returns-in-Enum
returns-in-Enum c =
    rw c.in-Enum.is (rw (← c.deref-in-Enum.ensures.value)
    (tests_variants c.args.size c.deref-in-Enum.result.now c.variants_within.result c.variants_within.ensures))
