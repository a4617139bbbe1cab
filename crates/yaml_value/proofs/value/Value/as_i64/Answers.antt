-- What is asked of a number is asked of what it is seen as.
use Rattle.std.proofs.Common.{ap, ◌^◌, ◌∙◌}
use Rattle.std.specs.Prelude.{option_and_then}
use Rattle.yaml_value.specs.Kinds.{number_in}
use Rattle.yaml_value.specs.Numbers.{signed_below}
use Rattle.yaml_value.specs.View.{plain}
use Rattle.yaml_value.proofs.Asked.{integer_asked}
use Rattle.yaml_value.proofs.value.Value.as_i64.Goals as goal

pub returns : goal.returns
returns c =
    c.as_i64.ensures
    ∙ ap (option_and_then (signed_below (2 ^ 63)))
    (integer_asked c.in_ok-as_number.field-0 (number_in (plain c.args.self.now)) c.in_ok-as_number.ensures)
