-- What is answered to the name and the input.
use Rattle.std.specs.Prelude.{codes}
use Rattle.std.proofs.Common.{refl, subst}
use Rattle.yaml_case.specs.Replies.{IsReply}
use Rattle.yaml_run.specs.Printed.{status_of}
use Rattle.yaml_run.proofs.RunLaws.{some_input}
use Rattle.yaml_case.proofs.RunLaws.{refuses, wants_memory, replies}
use Rattle.yaml_case.proofs.reply.reply.Goals as goal

pub returns-in_default-clause-answers : goal.returns-in_default-clause-answers
returns-in_default-clause-answers g c =
    let given = some_input (g.R.Read.remaining c.args.reader.now) in
    (codes "bad argument", given.0, refl, given.1, refuses _ _ _ _ c.in_default.ensures refl)

pub returns-in-Ok-clause-answers : goal.returns-in-Ok-clause-answers
returns-in-Ok-clause-answers g c =
    let a = c.answer_to.ensures in
    let whole = subst (λ i. IsReply c.in-Some.named c.args.limits i (status_of c.answer_to.result) a.0)
    c.as_slice.ensures.value a.2 in
    (a.0, c.in-Ok.input.items, a.1, c.in-Ok.ensures, replies c.in-Some.named _ _ _ _ _ c.in-Some.ensures whole)

pub returns-in-Err-OutOfMemory-clause-answers : goal.returns-in-Err-OutOfMemory-clause-answers
returns-in-Err-OutOfMemory-clause-answers g c =
    let given = some_input (g.R.Read.remaining c.args.reader.now) in (
      codes "fault: out of memory",
      given.0,
      refl,
      given.1,
      wants_memory c.in-Some.named _ _ _ _ c.in-Some.ensures refl,
    )
