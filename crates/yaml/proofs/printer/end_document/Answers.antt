-- No document begins.
use Rattle.std.proofs.Common.{[], ◌∷◌, refl}
use Rattle.yaml.proofs.DocumentCounts.{uncounted}
use Rattle.yaml_base.specs.EmitEvents.{PlainEmit, emit_document_end}
use Rattle.yaml.proofs.printer.end_document.Goals as goal

pub returns : goal.returns
returns c =
    uncounted (λ (e : PlainEmit). e ∷ []) emit_document_end c.args.out.now c.end_document.new.self
    c.end_document.result refl c.end_document.ensures.added c.end_document.ensures.err
