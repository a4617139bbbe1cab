-- What is asked of a number is asked of what it is seen as.
use Rattle.std.proofs.Common.{ap, ◌∙◌}
use Rattle.std.specs.Prelude.{is_some}
use Rattle.yaml_value.specs.Kinds.{number_in}
use Rattle.yaml_value.specs.View.{plain}
use Rattle.yaml_value.proofs.Asked.{float_asked}
use Rattle.yaml_value.proofs.value.Value.is_f64.Goals as goal

pub returns-in-Some : goal.returns-in-Some
returns-in-Some c =
    c.is_float.ensures
    ∙ ap is_some (float_asked c.in-Some.number (number_in (plain c.args.self.now)) c.in-Some.ensures)
