-- What is answered to the input.
use Rattle.std.proofs.Common.{refl, string_bytes, subst}
use Rattle.yaml_run.proofs.RunLaws.{some_input}
use Rattle.yaml_tool.specs.Answers.{IsAnswer}
use Rattle.yaml_tool.specs.Answers.IsAnswer.{out_of_memory}
use Rattle.yaml_tool.proofs.reply.reply.Goals as goal

pub returns-in-Ok : goal.returns-in-Ok
returns-in-Ok g c = record {
  answers = (
    c.in-Ok.input.items,
    c.in-Ok.ensures,
    refl,
    subst (λ i. IsAnswer c.args.task.now i c.answer_to.result.ended (string_bytes c.answer_to.result.text)
        c.answer_to.result.faults.items) c.as_slice.ensures.value c.answer_to.ensures,
  );
}

pub returns-in-Err-OutOfMemory : goal.returns-in-Err-OutOfMemory
returns-in-Err-OutOfMemory g c =
    let given = some_input (g.R.Read.remaining c.args.reader.now) in
    record {
      answers = (
        given.0,
        given.1,
        tt,
        out_of_memory c.no_answer.ensures.ended c.no_answer.ensures.text c.no_answer.ensures.faults,
      );
    }
