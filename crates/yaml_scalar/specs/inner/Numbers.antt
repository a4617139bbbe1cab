-- What a scalar gives as an integer of a type, under a shape that expects one.
use Rattle.std.specs.Prelude.{◌-◌, ◌^◌, Bool, option_and_then, Result, Err}
use Rattle.std.specs.Option.{option_map_or}
use Rattle.yaml_base.specs.PlainEvent.{PlainScalar}
use Rattle.yaml_shape.specs.Expected.{expected_text}
use Rattle.yaml_shape.specs.IntegerTypes.{bits_of, least, greatest}
use Rattle.yaml_shape.specs.PlainData.{PlainData}
use Rattle.yaml_shape.specs.PlainShape.{IntegerType, PlainShape}
use Rattle.yaml_meaning.specs.CoreTags.{int_tag}
use Rattle.yaml_meaning.specs.ReadFault.{ReadFault}
use Rattle.yaml_meaning.specs.ScalarFound.{scalar_fault}
use Rattle.yaml_meaning.specs.ScalarShapes.{plain_text, signed_between, signed_text, unsigned_text, unsigned_up_to}

-- the integer of a type with a sign, or the fault of a scalar that writes none
abbrev pub signed_number : IntegerType → PlainShape → (taken : Bool) → PlainScalar → Result PlainData ReadFault
signed_number i shape taken s =
    option_map_or (signed_between (least i) (greatest i) (expected_text shape))
    (option_and_then (signed_text i) (plain_text int_tag taken s)) (Err (scalar_fault shape taken s))

-- the same without a sign
abbrev pub unsigned_number : IntegerType → PlainShape → (taken : Bool) → PlainScalar → Result PlainData ReadFault
unsigned_number i shape taken s =
    option_map_or (unsigned_up_to (2 ^ bits_of i - 1) (expected_text shape))
    (option_and_then (unsigned_text i) (plain_text int_tag taken s)) (Err (scalar_fault shape taken s))
