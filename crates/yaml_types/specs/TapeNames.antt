-- Names on a tape: the word in a place, and which of some names it is.
use Rattle.std.specs.Prelude.{ℕ, zero, suc, ◌≡◌, ◌+◌, List, [], ◌∷◌, Option, None, Some, bytes_eq, if◌then◌else◌}
use Rattle.std.specs.Prelude.{slice_get}
use Rattle.std.specs.Option.{option_map}
use Rattle.yaml_base.specs.PlainDocEvent.{a_scalar}
use Rattle.yaml_base.specs.PlainEvent.{PlainScalar}
use Rattle.yaml_meaning.specs.ScalarShapes.{text_of}
use Rattle.yaml_shape.specs.PlainData.{PlainData, unit_data}
use Rattle.yaml_tape.specs.OnDocs.{docs_from}
use Rattle.yaml_tape.specs.declared.tape.Tape.{Tape}
use Rattle.yaml_types.specs.Choices.{Content, no_content}

-- a scalar without a tag stands in the place, with this text
pub record IsWord (t : Tape) (place : ℕ) (text : List ℕ) : Type 0 where
  pub scalar : PlainScalar
  pub there : docs_from t place ≡ Some (a_scalar scalar) ∷ docs_from t (place + 1)
  pub untagged : scalar.tag ≡ None
  pub says : text_of scalar ≡ Some text

-- the place of the first of these names that is the text
abbrev pub place_in : List (List ℕ) → (text : List ℕ) → Option ℕ
place_in [] text = None
place_in (name ∷ names) text = if bytes_eq name text then Some zero else option_map suc (place_in names text)

-- the variant with this number holds nothing, and the value is built of that
pub record IsBareValue {C : Type 0} (contents : List Content) (built : ℕ → PlainData → C → Type 0) (place : ℕ) (x : C)
    : Type 0 where
  pub bare : slice_get contents place ≡ Some no_content
  pub value : built place unit_data x
