-- A value is written as the only document of a stream, as its data is written under the type's shape.
use Rattle.std.specs.Prelude.{IsTrue}
use Rattle.std.proofs.Common.{◌≡◌, ◌∷◌, ◌∙◌, [], Err, Ok, false, rules, subst}
use Rattle.yaml_base.specs.EmitEvents.{emit_stream_start, emit_document_start}
use Rattle.yaml_shape.specs.Held.{is_table}
use Rattle.yaml_base.specs.Answer.{is_memory}
use Rattle.yaml_types.specs.NodeWrites.{IsPut}
use Rattle.serde_yaml.specs.TypedWrites.{TypeWrites}
use Rattle.serde_yaml.proofs.TypedLaws.{no_type_written, node_refused, node_written}
use Rattle.serde_yaml.proofs.ser.write_value.Goals as goal

pub returns-in-Err-clause-written : goal.returns-in-Err-clause-written
returns-in-Err-clause-written g c =
    no_type_written g.T.Serialize.start _ _ c.in-Err.refused c.schema_refusal.result c.in-Err.ensures.refused
    c.schema_refusal.ensures

pub returns-in_err-write_node-clause-written : goal.returns-in_err-write_node-clause-written
returns-in_err-write_node-clause-written g c =
    let told : is_memory c.in_err-write_node.field-0.0 ≡ false
    → TypeWrites g.T.Serialize.start (g.T.Serialize.written c.args.value.now)
    (g.T.Serialize.unwritten c.args.value.now) (Err c.in_err-write_node.field-0.0) =
    node_refused g.T.Serialize.start (g.T.Serialize.written c.args.value.now)
    (g.T.Serialize.unwritten c.args.value.now) c.in-Ok.start.0 c.in-Ok.start.1.0 c.in_err-write_node.field-0.0
    c.in-Ok.ensures.ok.table c.in-Ok.ensures.ok.number c.is_valid.ensures c.in_err-write_node.ensures.refused in
    search (rules, told)

pub returns-clause-written : goal.returns-clause-written
returns-clause-written g c =
    rw c.into_sink.ensures
    (node_written g.T.Serialize.start (g.T.Serialize.written c.args.value.now)
    (g.T.Serialize.unwritten c.args.value.now) c.in-Ok.start.0 c.in-Ok.start.1.0 c.start_stream.new.self
    c.write_node.new.out c.end_stream.new.self
    c.in-Ok.ensures.ok.table c.in-Ok.ensures.ok.number c.is_valid.ensures
    (subst (λ old. IsPut (λ es. es) (Ok (emit_stream_start ∷ emit_document_start ∷ [])) old c.start_stream.new.self)
    (c.new-out.ensures ∙ c.requires.fresh) c.in_ok-start_stream.ensures)
    c.in_ok-write_node.ensures.put c.in_ok-end_stream.ensures)

pub returns-clause-table : goal.returns-clause-table
returns-clause-table g c = subst (λ table. IsTrue (is_table table)) c.in-Ok.ensures.ok.table c.is_table.ensures
