-- What a scalar is under the shape of any value, unless its tag is local and has a name: a value, or the first fault.
use Rattle.std.specs.Prelude.{ℕ, pos, ℤ, List, None, Bool, if◌then◌else◌, Result, Ok, Err, codes}
use Rattle.std.specs.Option.{option_map_or}
use Rattle.yaml_base.specs.Floats.{is_float}
use Rattle.yaml_base.specs.Kinds.{kind_of}
use Rattle.yaml_base.specs.PlainEvent.{PlainScalar}
use Rattle.yaml_base.specs.PlainWords.{boolean_of, is_null_word}
use Rattle.yaml_base.specs.declared.found.Found.{Found}
use Rattle.yaml_base.specs.declared.found.Found.TheVariants as found
use Rattle.yaml_shape.specs.Expected.{expected_text}
use Rattle.yaml_shape.specs.PlainShape.{any_shape}
use Rattle.yaml_tree.specs.Integer.{is_number}
use Rattle.yaml_tree.specs.Tree.{Tree, null, boolean, number, string}
use Rattle.yaml_meaning.specs.ReadFault.{ReadFault, at_node, float_unsupported}
use Rattle.yaml_meaning.specs.ScalarFound.{wrong_type, wrong_value, found_kind, found_integer}
use Rattle.yaml_meaning.specs.ScalarSorts.{PlainSort, without_text, tagged_bool, tagged_int, tagged_float, tagged_null}
use Rattle.yaml_meaning.specs.ScalarSorts.{by_its_text, as_string, sort_of}

-- an integer is a number where it has 64 bits, with a sign only below 0
abbrev pub any_integer : Found → ℤ → Result Tree ReadFault
any_integer integer z = if is_number z then Ok (number z) else Err (wrong_type integer (expected_text any_shape))

-- the value that was found
abbrev pub any_found : Found → Result Tree ReadFault
any_found found.Unit = Ok null
any_found (found.Bool b) = Ok (boolean b)
any_found (found.Unsigned n) = any_integer (found.Unsigned n) (pos n)
any_found (found.Signed z) = any_integer (found.Signed z) z
any_found (found.Float text) = Err (at_node (float_unsupported text) None)
any_found (found.Str text) = Ok (string text)
any_found something = Err (wrong_type something (expected_text any_shape))

-- what a scalar in a row is, with this text
abbrev pub any_in : PlainSort → (text : List ℕ) → Result Tree ReadFault
any_in without_text text = any_found found.Bytes
any_in tagged_bool text =
    option_map_or (λ b. any_found (found.Bool b)) (boolean_of text)
    (Err (wrong_value (found.Str text) (codes "a boolean")))
any_in tagged_int text =
    option_map_or any_found (found_integer text) (Err (wrong_value (found.Str text) (codes "an integer")))
any_in tagged_float text =
    if is_float text then any_found (found.Float text) else Err (wrong_value (found.Str text) (codes "a float"))
any_in tagged_null text =
    if is_null_word text then any_found found.Unit else Err (wrong_value (found.Str text) (codes "null"))
any_in by_its_text text = any_found (found_kind text (kind_of text))
any_in as_string text = any_found (found.Str text)

-- what a scalar is
abbrev pub any_scalar : (taken : Bool) → PlainScalar → Result Tree ReadFault
any_scalar taken s = any_in (sort_of taken s) s.text
