-- Data is written as the only document of a stream.
use Rattle.std.proofs.Common.{◌∷◌, ◌∙◌, [], None, Ok, subst}
use Rattle.yaml_base.specs.EmitEvents.{emit_stream_start, emit_document_start}
use Rattle.yaml_shape.specs.DataView.{data_of}
use Rattle.yaml_types.specs.NodeWrites.{IsPut}
use Rattle.yaml_write.specs.Written.{written}
use Rattle.serde_yaml.proofs.TypedLaws.{stream_put}
use Rattle.serde_yaml.proofs.ser.write_stream.Goals as goal

pub returns-clause-written : goal.returns-clause-written
returns-clause-written g c =
    rw c.into_sink.ensures
    (stream_put (written c.args.schema.now c.args.id.0 None (data_of c.args.content.now)) c.start_stream.new.self
    c.typed.new.self c.end_stream.new.self
    (subst (λ old. IsPut (λ es. es) (Ok (emit_stream_start ∷ emit_document_start ∷ [])) old c.start_stream.new.self)
    (c.new-out.ensures ∙ c.requires.fresh) c.in_ok-start_stream.ensures) c.in_ok-typed.ensures c.in_ok-end_stream.ensures)
