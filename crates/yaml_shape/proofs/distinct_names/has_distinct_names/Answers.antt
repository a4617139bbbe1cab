-- The names in a shape.
use Rattle.yaml_shape.proofs.DistinctLaws.{tests_names, tests_enum}
use Rattle.yaml_shape.proofs.distinct_names.has_distinct_names.Goals as goal

pub returns-in-Struct : goal.returns-in-Struct
returns-in-Struct c =
    rw c.in-Struct.is (tests_names c.deref.result.now c.in-Struct.fields.items _ c.deref.ensures.value
    c.have_distinct_names.ensures)

pub returns-in-StrictStruct : goal.returns-in-StrictStruct
returns-in-StrictStruct c =
    rw c.in-StrictStruct.is
    (tests_names c.deref-in-StrictStruct.result.now c.in-StrictStruct.fields.items _
    c.deref-in-StrictStruct.ensures.value c.have_distinct_names-in-StrictStruct.ensures)

pub returns-in-Enum : goal.returns-in-Enum
returns-in-Enum c = rw c.in-Enum.is
    (tests_enum c.deref-in-Enum.result.now c.in-Enum.variants.items _ c.deref-in-Enum.ensures.value
    c.are_distinct_variants.ensures)
