-- No document begins at the start of a collection.
use Rattle.std.proofs.Common.{[], ◌∷◌, refl}
use Rattle.yaml.proofs.DocumentCounts.{uncounted}
use Rattle.yaml_base.specs.EmitEvents.{PlainEmit, emit_sequence_start, emit_mapping_start, tag_bytes}
use Rattle.yaml.proofs.printer.start.Goals as goal

pub returns-in-Element : goal.returns-in-Element
returns-in-Element c =
    uncounted (λ (e : PlainEmit). e ∷ []) (emit_sequence_start (tag_bytes c.args.tag)) c.args.out.now
    c.start_sequence.new.self c.start_sequence.result refl c.start_sequence.ensures.added c.start_sequence.ensures.err

pub returns-in-Key : goal.returns-in-Key
returns-in-Key c =
    uncounted (λ (e : PlainEmit). e ∷ []) (emit_mapping_start (tag_bytes c.args.tag)) c.args.out.now
    c.start_mapping.new.self c.start_mapping.result refl c.start_mapping.ensures.added c.start_mapping.ensures.err
