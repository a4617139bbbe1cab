-- Behind a document a stream may end, and it has no document more.
use Rattle.std.proofs.Common.{◌∙◌, ◌∷◌, ◌++◌, [], None, ap, false, subst, sym}
use Rattle.yaml_base.proofs.StreamMachineLaws.{goes_on_run}
use Rattle.yaml_base.specs.Answer.{is_memory}
use Rattle.yaml_documents.proofs.EndLaws.{end_documents, end_well_formed}
use Rattle.yaml_documents.proofs.ReadLaws.{never_refused}
use Rattle.yaml_documents.proofs.StateLaws.{run_on}
use Rattle.yaml_documents.proofs.TextLaws.{not_false}
use Rattle.yaml_documents.proofs.batch.ended.Goals as goal
use Rattle.yaml_load.proofs.Words.{Input, IsWellFormed, after_stream, between_documents, documents_of, events_in}
use Rattle.yaml_load.proofs.Words.{stream_end}

pub returns-in-Err-clause-memory : goal.returns-in-Err-clause-memory
returns-in-Err-clause-memory c =
    not_false (is_memory c.in-Err.fault) (λ other.
    never_refused c.args.builder stream_end
    ((goes_on_run (events_in c.args.builder ++ stream_end ∷ [])).1
    (after_stream, run_on (events_in c.args.builder) stream_end between_documents c.requires.between))
    (c.in-Err.ensures.wrong other).1)

pub returns-in-Ok-clause-documents : goal.returns-in-Ok-clause-documents
returns-in-Ok-clause-documents c =
    c.of.ensures ∙ c.in-Ok.ensures.documents ∙ ap (λ (es : Input). documents_of es None) c.in_default.ensures.taken
    ∙ end_documents c.args.builder c.args.mark c.requires.between c.requires.some

pub returns-in-Err-finish-clause-memory : goal.returns-in-Err-finish-clause-memory
returns-in-Err-finish-clause-memory c =
    not_false (is_memory c.in-Err-finish.fault) (λ other.
    c.in-Err-finish.ensures.refused other
    (subst (λ (es : Input). IsWellFormed false (events_in es)) (sym c.in_default.ensures.taken)
    (end_well_formed c.args.builder c.args.mark c.requires.between)))
