-- What a run prints is what the reply says, and nothing is written where there is none.
use Rattle.std.specs.Prelude.{IfSome}
use Rattle.std.proofs.Common.{◌≡◌, string_bytes, subst, sym}
use Rattle.yaml_run.proofs.RunLaws.{printed-read}
use Rattle.yaml_tool.specs.Answers.{IsAnswer}
use Rattle.yaml_tool.proofs.AnswerLaws.{answer-read}
use Rattle.yaml_tool.proofs.run.run.Goals as goal

pub returns-in-Ok-clause-prints : goal.returns-in-Ok-clause-prints
returns-in-Ok-clause-prints g c = λ read.
    let h = c.in-Ok.ensures.answers in
    let answer = c.in-Ok.reply.answer in (
      string_bytes answer.text,
      h.0,
      answer.ended,
      h.1,
      subst (λ i. IfSome i (λ given. given.items ≡ h.0)) (sym c.printed.ensures.input) h.2,
      subst (λ f. IsAnswer c.args.task.now h.0 answer.ended (string_bytes answer.text) f.items)
          (sym c.printed.ensures.faults) h.3,
      c.printed.ensures.prints,
    )

pub returns-in-Ok-clause-unwritten : goal.returns-in-Ok-clause-unwritten
returns-in-Ok-clause-unwritten g c = λ failed.
    let h = c.in-Ok.ensures.answers in
    absurd (printed-read _ _ _ _ _ c.printed.ensures.prints (answer-read c.args.task.now _ _ _ _ h.3) failed)
