-- What numbers are, seen as plain values.
use Rattle.std.specs.Prelude.{◌≡◌, Option, Some, option_and_then, refl}
use Rattle.std.proofs.Common.{ap, ◌∙◌}
use Rattle.yaml_value.specs.Forms.{float_near, float_of, integer_of}
use Rattle.yaml_value.specs.Kinds.{float_near_number, float_of_number, integer_of_number}
use Rattle.yaml_value.specs.Numbers.{as_f64, float_in, integer_in}
use Rattle.yaml_value.specs.PlainValue.{PlainValue}
use Rattle.yaml_value.specs.View.{plain_form, plain_number}
use Rattle.yaml_value.specs.declared.number.Form.{Form}
use Rattle.yaml_value.specs.declared.number.Form.TheVariants as form
use Rattle.yaml_value.specs.declared.number.Number.{Number}

integer_seen : (f : Form) → integer_of f ≡ integer_of_number (plain_form f)
integer_seen (form.Unsigned n) = refl
integer_seen (form.Negative z) = refl
integer_seen (form.Float x) = refl

float_seen : (f : Form) → float_of f ≡ float_of_number (plain_form f)
float_seen (form.Unsigned n) = refl
float_seen (form.Negative z) = refl
float_seen (form.Float x) = refl

near_seen : (f : Form) → float_near f ≡ float_near_number (plain_form f)
near_seen (form.Unsigned n) = refl
near_seen (form.Negative z) = refl
near_seen (form.Float x) = refl

-- what is asked of a number is asked of the plain value that it is
pub integer_asked : (n : Number) (o : Option PlainValue) → Some (plain_number n) ≡ o
    → integer_in n ≡ option_and_then integer_of_number o
integer_asked n o e = integer_seen n.form ∙ ap (option_and_then integer_of_number) e

pub float_asked : (n : Number) (o : Option PlainValue) → Some (plain_number n) ≡ o
    → float_in n ≡ option_and_then float_of_number o
float_asked n o e = float_seen n.form ∙ ap (option_and_then float_of_number) e

pub near_asked : (n : Number) (o : Option PlainValue) → Some (plain_number n) ≡ o
    → as_f64 n ≡ option_and_then float_near_number o
near_asked n o e = near_seen n.form ∙ ap (option_and_then float_near_number) e
