-- Tokens are asked for the events of a text that the direct parser may leave.
use Rattle.std.proofs.Common.{◌≡◌, false, subst, sym, true}
use Rattle.std.specs.Prelude.{IfNone, IfSome}
use Rattle.yaml_checked.specs.OfText.{IsOfText, MayBeLeft}
use Rattle.yaml_documents.proofs.source.TextEvents.new.Goals as goal
use Rattle.yaml_documents.proofs.source.TextEvents.new.Goals.{in-None+in_ok-new-in-None, in-Some}
use Rattle.yaml_documents.specs.declared.source.Source.{Source}
use Rattle.yaml_documents.specs.inner.Places.{IsPlaceIn}
use Rattle.yaml_documents.specs.inner.Sources.{IsBackIn, IsOfItsText, IsOver}

-- nothing was handed out of it, and it is of its text
abbrev Begins : Source → Type 0
Begins s = IsBackIn s × (false ≡ true → IsOver s) × IsOfItsText s

pub invariant_of-result : goal.invariant_of-result
invariant_of-result c =
    elim c.match-branch-2.branch [
      | in-Some w ↦ subst Begins (sym w.source-is) (
        subst (IsPlaceIn w.new.result.events.text) (sym w.new.ensures.back) tt,
        (λ no. absurd cc),
        (
          subst IsOfText (sym w.new.ensures.events)
              (subst (λ o. IfSome o IsOfText) w.in-Some.is c.in_ok-events.ensures.of_text),
          (λ left. absurd cc),
        ),
      )
      | in-None+in_ok-new-in-None w ↦
          subst Begins (sym w.source-is) (
            tt,
            (λ no. absurd cc),
            subst MayBeLeft (sym w.in_ok-new-in-None.ensures.text)
                (subst (λ o. IfNone o (MayBeLeft c.args.text.now)) w.in-None.is c.in_ok-events.ensures.left),
          )
    ]
