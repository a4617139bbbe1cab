-- Tokens are asked for the events of a text that the direct parser may leave.
use Rattle.std.proofs.Common.{◌≡◌, ◌∙◌, ap, subst, sym}
use Rattle.yaml_checked.specs.OfText.{MayBeLeft}
use Rattle.yaml_documents.proofs.TextLaws.{theirs_with_any}
use Rattle.yaml_documents.proofs.source.TextEvents.finish.Goals as goal
use Rattle.yaml_documents.specs.inner.Sources.{IsOfItsText, PlainSource, text_of}

pub returns-in-Tokens-clause-theirs : goal.returns-in-Tokens-clause-theirs
returns-in-Tokens-clause-theirs c = λ over here.
    let same : c.in-Tokens.events.text ≡ c.args.self.text =
    sym (ap text_of c.in-Tokens.is) ∙ ap (λ (s : PlainSource). s.text) c.self.view_is in
    theirs_with_any c.args.self.text c.args.self.given c.fault_of.result
    (subst MayBeLeft same (subst IsOfItsText c.in-Tokens.is c.self.invariant.2))
