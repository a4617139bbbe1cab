-- What the code expects of a node, and what it finds a scalar to be.
use Rattle.std.specs.Prelude.{List, ℕ, if◌then◌else◌, codes, Result, Ok, Err}
use Rattle.std.specs.Option.{option_map_or}
use Rattle.yaml_base.specs.Floats.{is_float}
use Rattle.yaml_base.specs.Kinds.{kind_of}
use Rattle.yaml_base.specs.PlainWords.{boolean_of, is_null_word}
use Rattle.yaml_base.specs.declared.found.Found.{Found}
use Rattle.yaml_base.specs.declared.found.Found.TheVariants as found
use Rattle.yaml_shape.specs.Expected.{expected_text, tuple_variant_text, struct_variant_text}
use Rattle.yaml_shape.specs.ShapeView.{shape_of}
use Rattle.yaml_meaning.specs.ReadFault.{ReadFault}
use Rattle.yaml_meaning.specs.ScalarFound.{wrong_type, wrong_value, found_kind, found_integer, wanted_text}
use Rattle.yaml_meaning.specs.ScalarSorts.{PlainSort, without_text, tagged_bool, tagged_int, tagged_float, tagged_null}
use Rattle.yaml_meaning.specs.ScalarSorts.{by_its_text, as_string}
use Rattle.yaml_scalar.specs.declared.expected.Expected.{Expected}
use Rattle.yaml_scalar.specs.declared.expected.Expected.TheVariants as expect
use Rattle.yaml_scalar.specs.declared.sort.ScalarSort.{ScalarSort}
use Rattle.yaml_scalar.specs.declared.sort.ScalarSort.TheVariants.{NoText, TaggedBool, TaggedInt, TaggedFloat}
use Rattle.yaml_scalar.specs.declared.sort.ScalarSort.TheVariants.{TaggedNull, Resolved, String}

-- what is expected, as faults tell it
abbrev pub expected_of : Expected → List ℕ
expected_of (expect.Shape s) = expected_text (shape_of s.now)
expected_of (expect.TupleVariant name variant) = tuple_variant_text name.now variant.now
expected_of (expect.StructVariant name variant) = struct_variant_text name.now variant.now

-- the same where a collection stands
abbrev pub wanted_of : Expected → List ℕ
wanted_of (expect.Shape s) = wanted_text (shape_of s.now)
wanted_of (expect.TupleVariant name variant) = tuple_variant_text name.now variant.now
wanted_of (expect.StructVariant name variant) = struct_variant_text name.now variant.now

-- the row that the code names
abbrev pub plain_sort : ScalarSort → PlainSort
plain_sort NoText = without_text
plain_sort TaggedBool = tagged_bool
plain_sort TaggedInt = tagged_int
plain_sort TaggedFloat = tagged_float
plain_sort TaggedNull = tagged_null
plain_sort Resolved = by_its_text
plain_sort String = as_string

-- what a scalar in a row is found to be, with this text; a tag that its text does not bear out is a fault
abbrev pub found_in : PlainSort → (text : List ℕ) → Result Found ReadFault
found_in without_text text = Ok found.Bytes
found_in tagged_bool text =
    option_map_or (λ b. Ok (found.Bool b)) (boolean_of text) (Err (wrong_value (found.Str text) (codes "a boolean")))
found_in tagged_int text =
    option_map_or (λ f. Ok f) (found_integer text) (Err (wrong_value (found.Str text) (codes "an integer")))
found_in tagged_float text =
    if is_float text then Ok (found.Float text) else Err (wrong_value (found.Str text) (codes "a float"))
found_in tagged_null text =
    if is_null_word text then Ok found.Unit else Err (wrong_value (found.Str text) (codes "null"))
found_in by_its_text text = Ok (found_kind text (kind_of text))
found_in as_string text = Ok (found.Str text)

-- the fault of what was found where something else is expected
abbrev pub fault_by : (expected : List ℕ) → Result Found ReadFault → ReadFault
fault_by expected (Ok f) = wrong_type f expected
fault_by expected (Err e) = e
