-- The value was read of the one document.
use Rattle.std.proofs.Common.{string_bytes}
use Rattle.std.proofs.lemmas.Result.{IfOk-weaker}
use Rattle.yaml.specs.OneDocument.{IsOneDocument}
use Rattle.yaml_documents.specs.TextDocuments.{IsParsed}
use Rattle.yaml_value.specs.PlainValue.{PlainValue}
use Rattle.yaml_value.specs.View.{plain}
use Rattle.yaml_tool.specs.Asked.{IsPrinted}
use Rattle.yaml_tool.proofs.asked.asked.Goals as goal

pub returns : goal.returns
returns c =
    IfOk-weaker c.of_value.result
    (λ s. IsPrinted c.args.question.now (plain c.in_ok-value.value) (string_bytes s))
    (λ s. IsParsed c.args.text.now IsOneDocument
    × ((v : PlainValue) × IsPrinted c.args.question.now v (string_bytes s)))
    (λ s p. (c.in_ok-value.ensures.one, (plain c.in_ok-value.value, p)))
    c.of_value.ensures.printed
