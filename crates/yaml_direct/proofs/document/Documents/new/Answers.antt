-- From the beginning of the text.
use Rattle.std.proofs.Common.{ap, refl, subst, sym, ◌≡◌, ◌∙◌}
use Rattle.std.proofs.lemmas.Bool.{false≢true}
use Rattle.std.specs.Prelude.{IfNone, IfOk}
use Rattle.yaml_direct.proofs.CharacterLaws.{text_from_first}
use Rattle.yaml_direct.proofs.TextLaws.{no_order_mark}
use Rattle.yaml_direct.proofs.document.Documents.new.Goals as goal
use Rattle.yaml_direct.proofs.document.Documents.new.Goals.{else-has_order_mark, then-has_order_mark}
use Rattle.yaml_grammar.specs.Bytes.{is_text}
use Rattle.yaml_reading.specs.Refused.{NothingStands}

pub returns-in-Some-clause-stands : goal.returns-in-Some-clause-stands
returns-in-Some-clause-stands c = λ h.
    let from : c.if-has_order_mark.from ≡ 0 = elim c.if-has_order_mark.branch [
      | then-has_order_mark w ↦ absurd (false≢true (sym (no_order_mark c.args.text.now h)
          ∙ (sym c.has_order_mark.ensures.mark ∙ w.if-has_order_mark.true)))
      | else-has_order_mark w ↦ w.from-is
    ] in
    c.begun.ensures.stands (ap is_text c.in-Some.ensures.text ∙ h) c.in-Some.ensures.unnamed from
    (c.in-Some.ensures.begun ∙ from)

-- where the text is refused by its characters, or by what stands at its beginning, it has none
pub returns-in-Other-clause-left : goal.returns-in-Other-clause-left
returns-in-Other-clause-left c = λ h short ds stand.
    let from : c.if-has_order_mark.from ≡ 0 = elim c.if-has_order_mark.branch [
      | then-has_order_mark w ↦ absurd (false≢true (sym (no_order_mark c.args.text.now h)
          ∙ (sym c.has_order_mark.ensures.mark ∙ w.if-has_order_mark.true)))
      | else-has_order_mark w ↦ w.from-is
    ] in
    c.in-Other.ensures.other (text_from_first c.args.text.now c.if-has_order_mark.from from h) refl

pub returns-in-Some-clause-left : goal.returns-in-Some-clause-left
returns-in-Some-clause-left c = λ h short.
    let from : c.if-has_order_mark.from ≡ 0 = elim c.if-has_order_mark.branch [
      | then-has_order_mark w ↦ absurd (false≢true (sym (no_order_mark c.args.text.now h)
          ∙ (sym c.has_order_mark.ensures.mark ∙ w.if-has_order_mark.true)))
      | else-has_order_mark w ↦ w.from-is
    ] in
    subst (λ t. IfOk c.begun.result (λ o. IfNone o (NothingStands t))) c.in-Some.ensures.text
    (c.begun.ensures.left (ap is_text c.in-Some.ensures.text ∙ h) from)
