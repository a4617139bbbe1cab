-- No document begins at the end of a collection.
use Rattle.std.proofs.Common.{[], ◌∷◌, refl}
use Rattle.yaml.proofs.DocumentCounts.{uncounted}
use Rattle.yaml_base.specs.EmitEvents.{PlainEmit, emit_sequence_end, emit_mapping_end}
use Rattle.yaml.proofs.printer.end.Goals as goal

pub returns-in-Element : goal.returns-in-Element
returns-in-Element c =
    uncounted (λ (e : PlainEmit). e ∷ []) emit_sequence_end c.args.out.now
    c.end_sequence.new.self c.end_sequence.result refl c.end_sequence.ensures.added c.end_sequence.ensures.err

pub returns-in-Key : goal.returns-in-Key
returns-in-Key c =
    uncounted (λ (e : PlainEmit). e ∷ []) emit_mapping_end c.args.out.now
    c.end_mapping.new.self c.end_mapping.result refl c.end_mapping.ensures.added c.end_mapping.ensures.err
