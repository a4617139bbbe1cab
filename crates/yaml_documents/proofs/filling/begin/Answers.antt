-- The start of a stream is a beginning of one.
use Rattle.std.proofs.Common.{◌∷◌, ◌++◌, [], refl, subst, sym}
use Rattle.yaml_base.proofs.StreamMachineLaws.{goes_on_run}
use Rattle.yaml_base.specs.Answer.{is_memory}
use Rattle.yaml_documents.proofs.ReadLaws.{never_refused}
use Rattle.yaml_documents.proofs.TextLaws.{not_false}
use Rattle.yaml_documents.proofs.filling.begin.Goals as goal
use Rattle.yaml_load.proofs.Words.{Input, IsBeginning, between_documents, events_in, stream_start}

pub returns-in-Err-clause-memory : goal.returns-in-Err-clause-memory
returns-in-Err-clause-memory c =
    not_false (is_memory c.in-Err.fault) (λ other.
    never_refused c.in_ok-builder.builder stream_start
    (subst (λ (es : Input). IsBeginning (events_in es ++ stream_start ∷ [])) (sym c.in_ok-builder.ensures)
    ((goes_on_run (stream_start ∷ [])).1 (between_documents, refl)))
    (c.in-Err.ensures.wrong other).1)
