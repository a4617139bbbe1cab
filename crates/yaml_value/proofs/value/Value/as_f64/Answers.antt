-- What is asked of a number is asked of what it is seen as.
use Rattle.std.proofs.Common.{◌∙◌}
use Rattle.yaml_value.specs.Kinds.{number_in}
use Rattle.yaml_value.specs.View.{plain}
use Rattle.yaml_value.proofs.Asked.{near_asked}
use Rattle.yaml_value.proofs.value.Value.as_f64.Goals as goal

pub returns : goal.returns
returns c =
    c.as_f64.ensures
    ∙ near_asked c.in_ok-as_number.field-0 (number_in (plain c.args.self.now)) c.in_ok-as_number.ensures
