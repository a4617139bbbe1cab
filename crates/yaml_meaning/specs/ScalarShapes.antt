-- What a scalar, and the node of an empty stream, give under a shape: data, or the first fault, without its place.
use Rattle.std.specs.Prelude.{ℕ, ◌-◌, ◌^◌, ℤ, List, [], ◌∷◌, length, codes, Option, Some, None, Bool, true, false}
use Rattle.std.specs.Prelude.{◌&&◌, ◌||◌, if◌then◌else◌, int_le, nat_le, option_and_then, Result, Ok, Err}
use Rattle.std.specs.Option.{option_map_or}
use Rattle.std.specs.Str.{is_utf8, chars}
use Rattle.yaml_base.specs.Borrowable.{is_borrowable}
use Rattle.yaml_base.specs.Integers.{integer_of, unsigned_of, in_range, up_to}
use Rattle.yaml_base.specs.PlainEvent.{PlainScalar}
use Rattle.yaml_base.specs.PlainWords.{boolean_of}
use Rattle.yaml_base.specs.declared.found.Found.TheVariants.{Signed, Unsigned, Str, Bytes}
use Rattle.yaml_shape.specs.Expected.{expected_text, integer_text, few_text}
use Rattle.yaml_shape.specs.IntegerTypes.{bits_of, has_sign, least, greatest}
use Rattle.yaml_shape.specs.PlainData.{PlainData, any_data, bool_data, char_data, signed_data, unsigned_data, text_data}
use Rattle.yaml_shape.specs.PlainData.{none_data}
use Rattle.yaml_shape.specs.PlainData.{unit_data, seq_data, tuple_data, map_data, no_items, no_entries}
use Rattle.yaml_shape.specs.PlainShape.{IntegerType, i64, i128, u64, u128, PlainShape, any_shape, bool_shape}
use Rattle.yaml_shape.specs.PlainShape.{char_shape, integer_shape, str_shape, identifier_shape, bytes_shape}
use Rattle.yaml_shape.specs.PlainShape.{option_shape, unit_shape, unit_struct_shape, seq_shape, row_shape, map_shape}
use Rattle.yaml_shape.specs.PlainShape.{enum_shape}
use Rattle.yaml_tree.specs.Tree.{null}
use Rattle.yaml_meaning.specs.CoreTags.{bool_tag, int_tag}
use Rattle.yaml_meaning.specs.Presence.{is_absent, is_empty_plain, null_fault}
use Rattle.yaml_meaning.specs.ReadFault.{ReadFault, bytes_unsupported}
use Rattle.yaml_meaning.specs.ScalarAny.{any_scalar}
use Rattle.yaml_meaning.specs.ScalarFound.{wrong_type, wrong_value, wrong_length, scalar_fault, void_fault}
use Rattle.yaml_meaning.specs.ScalarSorts.{is_plain, is_literal, has_untaken}
use Rattle.yaml_meaning.specs.Steps.{◌>>=◌}
use Rattle.yaml_meaning.specs.Variants.{named_variant}

-- ---- words
-- the scalar is plain, whatever its tag, or literal with just this tag, which is not taken
abbrev pub is_plain_or_tagged_literal : (name : List ℕ) → (taken : Bool) → PlainScalar → Bool
is_plain_or_tagged_literal name taken s = is_plain s.style || (is_literal s.style && has_untaken name taken s)

-- the text that bytes are, where they are UTF-8
abbrev pub utf8_text : List ℕ → Option (List ℕ)
utf8_text bytes = if is_utf8 bytes then Some bytes else None

-- the text of a scalar
abbrev pub text_of : PlainScalar → Option (List ℕ)
text_of s = utf8_text s.text

-- the text of a scalar that is plain or literal with just this untaken tag
abbrev pub plain_text : (name : List ℕ) → (taken : Bool) → PlainScalar → Option (List ℕ)
plain_text name taken s = if is_plain_or_tagged_literal name taken s then text_of s else None

-- the type as which an integer is read, before it is known to be one of its own type
abbrev pub widest : IntegerType → IntegerType
widest i128 = i128
widest u128 = u128
widest i = if has_sign i then i64 else u64

-- the integer with a sign that is read of a text, of 64 bits, or 128 where they are asked for
abbrev pub signed_text : IntegerType → List ℕ → Option ℤ
signed_text i text = in_range (least (widest i)) (greatest (widest i)) (integer_of text)

-- the same without a sign
abbrev pub unsigned_text : IntegerType → List ℕ → Option ℕ
unsigned_text i text = up_to (2 ^ bits_of (widest i) - 1) (unsigned_of text)

-- the integer with a sign, where it lies in the range
abbrev pub signed_between : (low high : ℤ) → (expected : List ℕ) → ℤ → Result PlainData ReadFault
signed_between low high expected z =
    if int_le low z && int_le z high then Ok (signed_data z) else Err (wrong_value (Signed z) expected)

-- the integer without a sign, where it is not above the most
abbrev pub unsigned_up_to : (most : ℕ) → (expected : List ℕ) → ℕ → Result PlainData ReadFault
unsigned_up_to most expected n =
    if nat_le n most then Ok (unsigned_data n) else Err (wrong_value (Unsigned n) expected)

-- the integer of the type that a text writes; one past the type's range is a fault of its own
abbrev pub integer_answer : IntegerType → (text : Option (List ℕ)) → (fault : ReadFault) → Result PlainData ReadFault
integer_answer i text fault =
    if has_sign i
    then option_map_or (signed_between (least i) (greatest i) (integer_text i)) (option_and_then (signed_text i) text)
    (Err fault)
    else option_map_or (unsigned_up_to (2 ^ bits_of i - 1) (integer_text i)) (option_and_then (unsigned_text i) text)
    (Err fault)

-- the element of a list that has no other
abbrev pub only_one : List ℕ → Option ℕ
only_one (c ∷ []) = Some c
only_one _ = None

-- the one character of a text; a text of none or several is a fault of its own
abbrev pub one_character : (text : List ℕ) → Result PlainData ReadFault
one_character text = option_map_or (λ c. Ok (char_data c)) (only_one (chars text))
    (Err (wrong_value (Str text) (expected_text char_shape)))

-- the data of a text, which the source lends where it shows it
abbrev pub lent_text : PlainScalar → List ℕ → PlainData
lent_text s text = text_data (is_borrowable text s.source s.style) text

-- what is expected where a node has fewer elements than its row
abbrev pub too_few_text : PlainShape → List ℕ
too_few_text (row_shape owner ids) = few_text owner (length ids)
too_few_text shape = expected_text shape

-- no elements, where none are asked for
abbrev pub no_elements : (asked : List ℕ) → PlainShape → Result PlainData ReadFault
no_elements [] shape = Ok (tuple_data no_items)
no_elements (id ∷ ids) shape = Err (wrong_length 0 (too_few_text shape))

-- ---- the rows
-- What a scalar gives under a shape; the flag says whether its tag is taken. Under an optional it is asked only of a
-- scalar that is not the optional's content, and under a newtype, or where nodes are stepped over, of none.
abbrev pub scalar_answer : PlainShape → (taken : Bool) → PlainScalar → Result PlainData ReadFault
scalar_answer any_shape taken s = any_scalar taken s >>= λ t. Ok (any_data t)
scalar_answer bool_shape taken s =
    option_map_or (λ b. Ok (bool_data b)) (option_and_then boolean_of (plain_text bool_tag taken s))
    (Err (scalar_fault bool_shape taken s))
scalar_answer (integer_shape i) taken s =
    integer_answer i (plain_text int_tag taken s) (scalar_fault (integer_shape i) taken s)
scalar_answer str_shape taken s =
    option_map_or (λ text. Ok (lent_text s text)) (text_of s) (Err (scalar_fault str_shape taken s))
scalar_answer identifier_shape taken s =
    option_map_or (λ text. Ok (lent_text s text)) (text_of s) (Err (scalar_fault identifier_shape taken s))
scalar_answer char_shape taken s =
    option_map_or one_character (text_of s) (Err (scalar_fault char_shape taken s))
scalar_answer bytes_shape taken s = Err bytes_unsupported
scalar_answer (option_shape content) taken s = if is_absent taken s then Ok none_data else Err (null_fault s)
scalar_answer unit_shape taken s = if is_absent taken s then Ok unit_data else Err (null_fault s)
scalar_answer (unit_struct_shape name) taken s = if is_absent taken s then Ok unit_data else Err (null_fault s)
scalar_answer (seq_shape element) taken s =
    if is_empty_plain s then Ok (seq_data no_items) else Err (scalar_fault (seq_shape element) taken s)
scalar_answer (row_shape owner ids) taken s =
    if is_empty_plain s then no_elements ids (row_shape owner ids) else Err (scalar_fault (row_shape owner ids) taken s)
scalar_answer (map_shape key value) taken s =
    if is_empty_plain s then Ok (map_data no_entries) else Err (scalar_fault (map_shape key value) taken s)
scalar_answer (enum_shape name variants) taken s =
    option_map_or (named_variant variants) (text_of s) (Err (wrong_type Bytes (codes "variant identifier")))
scalar_answer shape taken s = Err (scalar_fault shape taken s)

-- what the node of an empty stream gives under a shape
abbrev pub void_answer : PlainShape → Result PlainData ReadFault
void_answer any_shape = Ok (any_data null)
void_answer bytes_shape = Err bytes_unsupported
void_answer (option_shape content) = Ok none_data
void_answer unit_shape = Ok unit_data
void_answer (unit_struct_shape name) = Ok unit_data
void_answer (seq_shape element) = Ok (seq_data no_items)
void_answer (row_shape owner ids) = no_elements ids (row_shape owner ids)
void_answer (map_shape key value) = Ok (map_data no_entries)
void_answer _ = Err void_fault

-- the data of the scalar under the shape takes no memory: a boolean, an integer, a character, a unit, an optional that
-- is absent, a text or a name that the source shows
abbrev pub takes_no_memory : PlainShape → PlainScalar → Bool
takes_no_memory bool_shape s = true
takes_no_memory (integer_shape i) s = true
takes_no_memory char_shape s = true
takes_no_memory unit_shape s = true
takes_no_memory (option_shape content) s = is_absent false s
takes_no_memory str_shape s = is_borrowable s.text s.source s.style
takes_no_memory identifier_shape s = is_borrowable s.text s.source s.style
takes_no_memory _ s = false
