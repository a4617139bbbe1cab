-- The emitter has taken a stream with a document for each value.
use Rattle.std.proofs.Common.{◌≡◌, ◌++◌, ◌∷◌, ◌∙◌, [], Err, ap, false, rules, subst}
use Rattle.std.proofs.lemmas.Result.{IfErr-weaker, IfOk-weaker}
use Rattle.yaml_base.specs.Answer.{is_memory}
use Rattle.yaml_base.specs.EmitEvents.{emit_stream_start, emit_stream_end}
use Rattle.yaml_shape.specs.Validity.{IsValidSchema}
use Rattle.serde_yaml.specs.WrittenDocuments.{TypeWritesAll, refused}
use Rattle.serde_yaml.proofs.WrittenDocuments.{no_type_written_all, stream_taken, text_taken}
use Rattle.serde_yaml.proofs.documents.documents_to_string.Goals as goal

pub returns-in-Err-clause-unwritten : goal.returns-in-Err-clause-unwritten
returns-in-Err-clause-unwritten g c =
    no_type_written_all g.T.Serialize.start _ c.in-Err.refused c.schema_refusal.result c.in-Err.ensures.refused
    c.schema_refusal.ensures

pub returns-in_err-write_documents-clause-unwritten : goal.returns-in_err-write_documents-clause-unwritten
returns-in_err-write_documents-clause-unwritten g c =
    let told : is_memory c.in_err-write_documents.field-0.0 ≡ false
    → TypeWritesAll g.T.Serialize.start g.T.Serialize.written g.T.Serialize.unwritten c.args.values.now
    (Err c.in_err-write_documents.field-0.0) =
    λ known. refused c.in_err-write_documents.field-0.0 (c.in_err-write_documents.ensures.refused known) in
    search (rules, told)

pub returns-clause-text : goal.returns-clause-text
returns-clause-text g c =
    IfOk-weaker c.finish.result _ _
    (λ text printed. text_taken g.T.Serialize.start g.T.Serialize.written c.args.values.now
    (c.new-out.ensures ∙ (ap (λ e. e.taken) c.in_ok-push.ensures.taken
    ∙ ap (λ e. e.taken ++ emit_stream_start ∷ []) c.new-emitter.ensures)) c.in_ok-write_documents.ensures.taken
    (ap (λ e. e.taken) c.in_ok-push-2.ensures.taken ∙ ap (λ es. es ++ emit_stream_end ∷ []) c.into_sink-emitter.ensures)
    (subst IsValidSchema c.in-Ok.ensures.ok.table c.is_valid.ensures) printed) c.finish.ensures.printed

pub returns-clause-unwritten : goal.returns-clause-unwritten
returns-clause-unwritten g c =
    IfErr-weaker c.finish.result _ _
    (λ cause none known. absurd (none known (stream_taken g.T.Serialize.start g.T.Serialize.written c.args.values.now
    (c.new-out.ensures ∙ (ap (λ e. e.taken) c.in_ok-push.ensures.taken
    ∙ ap (λ e. e.taken ++ emit_stream_start ∷ []) c.new-emitter.ensures)) c.in_ok-write_documents.ensures.taken
    (ap (λ e. e.taken) c.in_ok-push-2.ensures.taken ∙ ap (λ es. es ++ emit_stream_end ∷ []) c.into_sink-emitter.ensures)))) c.finish.ensures.no_stream
