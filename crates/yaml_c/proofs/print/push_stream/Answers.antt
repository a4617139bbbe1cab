-- The events are those of the rows, between the stream's begin and its end.
use Rattle.std.proofs.Common.{◌∙◌, ◌++◌, ◌∷◌, [], List, ap}
use Rattle.yaml_base.specs.EmitEvents.{PlainEmit, emit_stream_start}
use Rattle.yaml_emit.specs.Emitted.{Emitted}
use Rattle.yaml_c.proofs.EachLaws.{stream_of_rows}
use Rattle.yaml_c.proofs.print.push_stream.Goals as goal

pub returns-clause-added : goal.returns-clause-added
returns-clause-added c = λ none.
    stream_of_rows c.args.texts.source.now c.args.texts.texts.now c.args.rows.now _ _ _
    (ap (λ (e : Emitted). e.taken) c.in_ok-push.ensures.taken
    ∙ ap (λ (es : List PlainEmit). es ++ (emit_stream_start ∷ [])) none)
    c.in_ok-push_rows.ensures.added (ap (λ (e : Emitted). e.taken) c.in_ok-push-2.ensures.taken)
