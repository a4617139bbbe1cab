-- What was asked, or where memory runs out, nothing.
use Rattle.yaml_tool.specs.Answers.IsAnswer.{answered, out_of_memory}
use Rattle.yaml_tool.proofs.answer.answer_to.Goals as goal

pub returns-in-Ok : goal.returns-in-Ok
returns-in-Ok c = answered c.in-Ok.ensures

pub returns-in-Err : goal.returns-in-Err
returns-in-Err c = out_of_memory c.no_answer.ensures.ended c.no_answer.ensures.text c.no_answer.ensures.faults
