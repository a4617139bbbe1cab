-- What is printed of the documents, and their faults, are the answer.
use Rattle.std.proofs.Common.{string_bytes, subst, sym}
use Rattle.yaml_tool.specs.Asked.{AnswersText}
use Rattle.yaml_tool.proofs.answer.ask_each.Goals as goal

pub returns : goal.returns
returns c = (
  c.of_shown.ensures.ended,
  subst (λ t. AnswersText c.args.question.now c.args.text.now (string_bytes t) c.of_shown.result.faults.items)
      (sym c.of_shown.ensures.text)
      (subst (λ f. AnswersText c.args.question.now c.args.text.now (string_bytes c.in_ok-shown.shown.text) f.items)
      (sym c.of_shown.ensures.faults) c.in_ok-shown.ensures),
)
