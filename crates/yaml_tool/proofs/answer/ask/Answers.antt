-- What is printed of the one document, or its fault, is the answer.
use Rattle.std.proofs.Common.{◌≡◌, string_bytes}
use Rattle.yaml_run.specs.Shown.{ended_by}
use Rattle.yaml_tool.specs.Answers.{IsAsked}
use Rattle.yaml_tool.specs.Asked.{Replies}
use Rattle.yaml_tool.specs.declared.task.Task.TheVariants as task
use Rattle.yaml_tool.proofs.AskedLaws.{answers_one, both}
use Rattle.yaml_tool.proofs.answer.ask.Goals as goal

pub returns : goal.returns
returns c =
    both c.of_text.result (λ a. a.ended ≡ ended_by a.faults.items)
    (λ a. Replies c.asked.result (string_bytes a.text) a.faults.items)
    (λ a. IsAsked (task.Ask c.args.question.now) c.args.text.now a.ended (string_bytes a.text) a.faults.items)
    (λ a ended replies. (
      ended,
      answers_one c.args.question.now c.args.text.now (string_bytes a.text) a.faults.items
          c.asked.result c.asked.ensures replies,
    ))
    c.of_text.ensures.ended c.of_text.ensures.replies
