-- The plain value that a `Value` stands for.
use Rattle.std.specs.Prelude.{◌≡◌, ◌&&◌, ℕ, List, [], ◌∷◌, pos, string_bytes, true, refl}
pub use Rattle.yaml_value.specs.Distinct.{plain_sequence, plain_pairs, plain_tagged}
use Rattle.yaml_value.specs.Distinct.{is_distinct, are_distinct, are_pairs_distinct}
use Rattle.yaml_value.specs.PlainValue.{PlainValue, null, boolean, integer, float, text, sequence, mapping, tagged}
use Rattle.yaml_value.specs.PlainValue.{PlainItems, no_items, item, PlainPairs, no_pairs, pair}
use Rattle.yaml_value.specs.declared.number.Form.{Form}
use Rattle.yaml_value.specs.declared.number.Form.TheVariants as form
use Rattle.yaml_value.specs.declared.number.Number.{Number}
use Rattle.yaml_value.specs.declared.tag.Tag.{Tag}
use Rattle.yaml_value.specs.declared.mapping.Entry.{Entry}
use Rattle.yaml_value.specs.declared.value.Value.{Value}
use Rattle.yaml_value.specs.declared.value.Value.TheVariants as V

-- the plain value of a number
abbrev pub plain_form : Form → PlainValue
plain_form (form.Unsigned n) = integer (pos n)
plain_form (form.Negative z) = integer z
plain_form (form.Float x) = float x

abbrev pub plain_number : Number → PlainValue
plain_number number = plain_form number.form

-- the text of a tag, with the `!`
abbrev pub tag_text : Tag → List ℕ
tag_text tag = string_bytes tag.text

-- the plain value of a value
abbrev pub plain : Value → PlainValue
plain V.Null = null
plain (V.Bool b) = boolean b
plain (V.Number n) = plain_number n
plain (V.String s) = text (string_bytes s)
plain (V.Sequence s) = sequence (plain_sequence s)
plain (V.Mapping m) = mapping (plain_pairs m)
plain (V.Tagged t) = tagged (plain_tagged t.value).0 (plain_tagged t.value).1

-- the plain items of a list of values
abbrev pub plain_items : List Value → PlainItems
plain_items [] = no_items
plain_items (v ∷ vs) = item (plain v) (plain_items vs)

-- a key with its value, each as a plain value
abbrev pub plain_entry : Entry → PlainValue × PlainValue
plain_entry e = (plain e.key, plain e.value)

-- the plain pairs of a list of entries
abbrev pub entry_pairs : List Entry → PlainPairs
entry_pairs [] = no_pairs
entry_pairs (e ∷ es) = pair (plain e.key) (plain e.value) (entry_pairs es)

-- of a number no mapping is a part
is_distinct-form : (f : Form) → is_distinct (plain_form f) ≡ true
is_distinct-form (form.Unsigned n) = refl
is_distinct-form (form.Negative z) = refl
is_distinct-form (form.Float x) = refl

-- in no mapping of a value a key stands twice
pub is_distinct-plain : (v : Value) → is_distinct (plain v) ≡ true
is_distinct-plain V.Null = refl
is_distinct-plain (V.Bool b) = refl
is_distinct-plain (V.Number n) = is_distinct-form n.form
is_distinct-plain (V.String s) = refl
is_distinct-plain (V.Sequence s) = s.1
is_distinct-plain (V.Mapping m) = m.1
is_distinct-plain (V.Tagged t) = t.value.1.1

-- so it is of each value of a list
pub are_distinct-plain_items : (vs : List Value) → are_distinct (plain_items vs) ≡ true
are_distinct-plain_items [] = refl
are_distinct-plain_items (v ∷ vs) = λ i. is_distinct-plain v i && are_distinct-plain_items vs i

-- and of each key and value of entries
pub are_pairs_distinct-entry_pairs : (es : List Entry) → are_pairs_distinct (entry_pairs es) ≡ true
are_pairs_distinct-entry_pairs [] = refl
are_pairs_distinct-entry_pairs (e ∷ es) =
    λ i. is_distinct-plain e.key i && (is_distinct-plain e.value i && are_pairs_distinct-entry_pairs es i)
