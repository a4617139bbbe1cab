-- One document more begins.
use Rattle.std.proofs.Common.{ap}
use Rattle.yaml.specs.WrittenDocument.{documents_begun}
use Rattle.yaml.proofs.DocumentCounts.{event_counted}
use Rattle.yaml_base.specs.EmitEvents.{emit_document_start}
use Rattle.std.proofs.lemmas.Result.{on_err_weaker}
use Rattle.yaml.proofs.printer.start_document.Goals as goal

pub returns-clause-ok : goal.returns-clause-ok
returns-clause-ok c =
    event_counted emit_document_start c.args.out.now c.start_document.new.self c.start_document.result
    c.start_document.ensures.added

pub returns-clause-err : goal.returns-clause-err
returns-clause-err c =
    on_err_weaker c.start_document.result (λ same. ap documents_begun same) c.start_document.ensures.err
