-- What a node was found to be where its shape asks for something else.
use Rattle.std.specs.Prelude.{ℕ, ◌-◌, ◌^◌, pos, neg_ℤ, List, Option, None, Bool, if◌then◌else◌, codes}
use Rattle.std.specs.Option.{option_map, option_map_or, option_or}
use Rattle.std.specs.Str.{is_utf8}
use Rattle.yaml_base.specs.Floats.{is_float}
use Rattle.yaml_base.specs.Integers.{integer_of, unsigned_of, in_range, up_to}
use Rattle.yaml_base.specs.Kinds.{kind_of}
use Rattle.yaml_base.specs.PlainEvent.{PlainScalar}
use Rattle.yaml_base.specs.PlainWords.{boolean_of, is_null_word}
use Rattle.yaml_base.specs.declared.found.Found.{Found}
use Rattle.yaml_base.specs.declared.found.Found.TheVariants as found
use Rattle.yaml_base.specs.declared.resolver.kind.Kind.{Kind}
use Rattle.yaml_base.specs.declared.resolver.kind.Kind.TheVariants as kind
use Rattle.yaml_shape.specs.Expected.{expected_text}
use Rattle.yaml_shape.specs.PlainShape.{PlainShape, enum_shape}
use Rattle.yaml_meaning.specs.ReadFault.{ReadFault, end_of_stream, at_node, invalid_type, invalid_value, invalid_length}
use Rattle.yaml_meaning.specs.ScalarSorts.{PlainSort, without_text, tagged_bool, tagged_int, tagged_float, tagged_null}
use Rattle.yaml_meaning.specs.ScalarSorts.{by_its_text, as_string, sort_of}

-- a node of another type than was expected; where it stands is not known yet
abbrev pub wrong_type : Found → (expected : List ℕ) → ReadFault
wrong_type something expected = at_node (invalid_type something expected) None

-- a node of the right type with another value than was expected
abbrev pub wrong_value : Found → (expected : List ℕ) → ReadFault
wrong_value something expected = at_node (invalid_value something expected) None

-- a row that was found to have another length than was expected
abbrev pub wrong_length : (length : ℕ) → (expected : List ℕ) → ReadFault
wrong_length length expected = at_node (invalid_length length expected) None

-- what a plain text of a kind is
abbrev pub found_kind : (text : List ℕ) → Kind → Found
found_kind text kind.Null = found.Unit
found_kind text (kind.Bool b) = found.Bool b
found_kind text (kind.Unsigned n) = found.Unsigned n
found_kind text (kind.Signed z) = found.Signed z
found_kind text kind.Float = found.Float text
found_kind text kind.Str = found.Str text

-- the integer of at most 128 bits that a text writes, without a minus or with one
abbrev pub found_integer : (text : List ℕ) → Option Found
found_integer text = option_or (option_map (λ n. found.Unsigned n) (up_to (2 ^ 128 - 1) (unsigned_of text)))
    (option_map (λ z. found.Signed z) (in_range (neg_ℤ (pos (2 ^ 127))) (pos (2 ^ 127 - 1)) (integer_of text)))

-- the string, or bytes where it is none
abbrev pub string_found : (text : List ℕ) → Found
string_found text = if is_utf8 text then found.Str text else found.Bytes

-- the fault of a scalar in a row, with this text, where something else is expected
abbrev pub fault_in : PlainSort → (text expected : List ℕ) → ReadFault
fault_in without_text text expected = wrong_type found.Bytes expected
fault_in tagged_bool text expected = option_map_or (λ b. wrong_type (found.Bool b) expected) (boolean_of text)
    (wrong_value (found.Str text) (codes "a boolean"))
fault_in tagged_int text expected = option_map_or (λ integer. wrong_type integer expected) (found_integer text)
    (wrong_value (found.Str text) (codes "an integer"))
fault_in tagged_float text expected =
    if is_float text then wrong_type (found.Float text) expected else wrong_value (found.Str text) (codes "a float")
fault_in tagged_null text expected =
    if is_null_word text then wrong_type found.Unit expected else wrong_value (found.Str text) (codes "null")
fault_in by_its_text text expected = wrong_type (found_kind text (kind_of text)) expected
fault_in as_string text expected = wrong_type (found.Str text) expected

-- the fault of a scalar that its shape has no meaning for
abbrev pub scalar_fault : PlainShape → (taken : Bool) → PlainScalar → ReadFault
scalar_fault shape taken s = fault_in (sort_of taken s) s.text (expected_text shape)

-- the fault of the node of an empty stream that its shape has no meaning for
abbrev pub void_fault : ReadFault
void_fault = end_of_stream

-- what is expected where a collection stands: under an enum a tag
abbrev pub wanted_text : PlainShape → List ℕ
wanted_text (enum_shape name variants) = codes "a YAML tag starting with '!'"
wanted_text shape = expected_text shape

-- the fault of a sequence that its shape has no meaning for
abbrev pub sequence_fault : PlainShape → ReadFault
sequence_fault shape = wrong_type found.Seq (wanted_text shape)

-- the fault of a mapping that its shape has no meaning for
abbrev pub mapping_fault : PlainShape → ReadFault
mapping_fault shape = wrong_type found.Map (wanted_text shape)
