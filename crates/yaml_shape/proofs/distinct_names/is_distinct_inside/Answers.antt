-- The names in the content of a variant.
use Rattle.yaml_shape.proofs.DistinctLaws.{tests_names}
use Rattle.yaml_shape.proofs.distinct_names.is_distinct_inside.Goals as goal

pub returns-in-Struct : goal.returns-in-Struct
returns-in-Struct c =
    rw c.in-Struct.is (tests_names c.deref.result.now c.in-Struct.fields.items _ c.deref.ensures.value
    c.have_distinct_names.ensures)

pub returns-in-StrictStruct : goal.returns-in-StrictStruct
returns-in-StrictStruct c =
    rw c.in-StrictStruct.is
    (tests_names c.deref-in-StrictStruct.result.now c.in-StrictStruct.fields.items _
    c.deref-in-StrictStruct.ensures.value c.have_distinct_names-in-StrictStruct.ensures)
