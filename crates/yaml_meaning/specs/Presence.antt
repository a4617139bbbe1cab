-- Whether a scalar stands for nothing: for an absent optional, for a unit, for an empty collection.
use Rattle.std.specs.Prelude.{ℕ, List, [], ◌∷◌, Bool, true, false, not, ◌&&◌, ◌||◌, codes}
use Rattle.std.specs.Option.{is_none}
use Rattle.yaml_base.specs.Kinds.{is_null_text}
use Rattle.yaml_base.specs.PlainEvent.{PlainScalar}
use Rattle.yaml_base.specs.PlainWords.{is_null_word}
use Rattle.yaml_meaning.specs.CoreTags.{null_tag}
use Rattle.yaml_meaning.specs.ReadFault.{ReadFault}
use Rattle.yaml_meaning.specs.ScalarFound.{string_found, wrong_value}
use Rattle.yaml_meaning.specs.ScalarSorts.{is_plain, has_untaken}

-- the scalar is plain, and without a tag, or with a taken one, has no text or a word for null
abbrev pub is_untagged_null : (taken : Bool) → PlainScalar → Bool
is_untagged_null taken s = is_plain s.style && ((taken || is_none s.tag) && is_null_text s.text)

-- the scalar is plain, and with the untaken tag of null has a word for null
abbrev pub is_tagged_null : (taken : Bool) → PlainScalar → Bool
is_tagged_null taken s = is_plain s.style && (has_untaken null_tag taken s && is_null_word s.text)

-- the scalar is plain, and with the untaken tag of null has another text
abbrev pub is_false_null : (taken : Bool) → PlainScalar → Bool
is_false_null taken s = is_plain s.style && (has_untaken null_tag taken s && not (is_null_word s.text))

-- the scalar stands for nothing
abbrev pub is_absent : (taken : Bool) → PlainScalar → Bool
is_absent taken s = is_untagged_null taken s || is_tagged_null taken s

-- under an optional the scalar stands for its content
abbrev pub is_present : (taken : Bool) → PlainScalar → Bool
is_present taken s = not (is_absent taken s || is_false_null taken s)

-- the fault of a scalar that should stand for nothing
abbrev pub null_fault : PlainScalar → ReadFault
null_fault s = wrong_value (string_found s.text) (codes "null")

-- the list is empty
abbrev pub is_empty : List ℕ → Bool
is_empty [] = true
is_empty (b ∷ bs) = false

-- the scalar is plain and has no text
abbrev pub is_empty_plain : PlainScalar → Bool
is_empty_plain s = is_plain s.style && is_empty s.text
