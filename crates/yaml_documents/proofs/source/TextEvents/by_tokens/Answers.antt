-- The text is one that the direct parser may leave.
use Rattle.std.proofs.Common.{◌∙◌, ap, subst, sym}
use Rattle.yaml_checked.specs.OfText.{MayBeLeft}
use Rattle.yaml_documents.proofs.source.TextEvents.by_tokens.Goals as goal
use Rattle.yaml_documents.specs.inner.Sources.{PlainSource}

pub invariant_of-result : goal.invariant_of-result
invariant_of-result c = (
  tt,
  (λ e. absurd (cc)),
  subst MayBeLeft
      (sym (c.in_ok-events.ensures.text ∙ ap (λ (p : PlainSource). p.text) c.self.view_is)) c.requires,
)
