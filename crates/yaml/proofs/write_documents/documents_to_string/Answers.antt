-- As many documents were begun as there are values.
use Rattle.std.proofs.Common.{arith}
use Rattle.std.proofs.lemmas.Result.{IfOk-weaker}
use Rattle.yaml.proofs.DocumentCounts.{text_of}
use Rattle.yaml.proofs.write_documents.documents_to_string.Goals as goal

pub returns : goal.returns
returns g c = record {
  documents =
      IfOk-weaker c.finish.result _ _
      (λ text printed. text_of (omega (
        arith,
        c.loop-value.invariant,
        c.loop-value.auto.value-index-end,
        c.loop-value-test.false,
      )) printed) c.finish.ensures;
}
