-- One document was begun behind none.
use Rattle.std.proofs.Common.{◌∙◌, ap, ◌+◌}
use Rattle.std.proofs.lemmas.Result.{IfOk-weaker}
use Rattle.yaml.proofs.DocumentCounts.{text_of_one, text_of_stream}
use Rattle.yaml.proofs.write.to_string.Goals as goal

pub returns : goal.returns
returns g c = record {
  stream = IfOk-weaker c.finish.result _ _ (λ text printed. text_of_stream printed) c.finish.ensures;
  one =
      IfOk-weaker c.finish.result _ _
      (λ text printed. text_of_one (c.in_ok-print_document.ensures ∙ ap (λ n. n + 1) c.in_ok-new.ensures) printed)
      c.finish.ensures;
}
