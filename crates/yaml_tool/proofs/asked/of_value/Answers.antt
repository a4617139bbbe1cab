-- The part is printed as it is asked for, or can't be; or the path leads nowhere.
use Rattle.yaml_value.specs.View.{plain}
use Rattle.yaml_tool.specs.Asked.IsRefused.{nowhere}
use Rattle.yaml_tool.proofs.AskedLaws.{printed-part, refused-part}
use Rattle.yaml_tool.proofs.asked.of_value.Goals as goal

pub returns-in-Ok : goal.returns-in-Ok
returns-in-Ok c = record {
  printed = printed-part c.args.question.now (plain c.args.value.now) (plain c.in-Ok.part.now) c.in_form.result
      c.in-Ok.ensures.part c.in_form.ensures.text;
  refused = refused-part c.args.question.now (plain c.args.value.now) (plain c.in-Ok.part.now) c.in_form.result
      c.in-Ok.ensures.part c.in_form.ensures.without;
}

pub returns-in-Err : goal.returns-in-Err
returns-in-Err c = record {
  printed = tt;
  refused = λ other. nowhere c.in-Err.ensures.nowhere.0 c.in-Err.ensures.nowhere.1;
}
