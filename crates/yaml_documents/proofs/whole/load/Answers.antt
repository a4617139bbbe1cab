-- The direct parser leaves a text only where no documents stand in it, or it has 2^32 bytes.
use Rattle.std.proofs.Common.{subst}
use Rattle.std.specs.Prelude.{IfNone}
use Rattle.yaml_checked.specs.OfText.{MayBeLeft}
use Rattle.yaml_documents.proofs.whole.load.Goals as goal

pub returns-in-None-clause-documents : goal.returns-in-None-clause-documents
returns-in-None-clause-documents c =
    c.load_by_tokens.ensures.left
    (subst (λ o. IfNone o (MayBeLeft c.args.text.now)) c.in-None.is c.in_ok-tape.ensures.left)
