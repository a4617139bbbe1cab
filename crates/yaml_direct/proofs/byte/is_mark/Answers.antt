use Rattle.std.proofs.Common.{◌≡◌, sym, ◌∙◌, arith}
use Rattle.std.proofs.lemmas.Bool.{eqb-true}
use Rattle.yaml_direct.proofs.TextLaws.{mark_is}
use Rattle.yaml_direct.proofs.byte.is_mark.Goals as goal
use Rattle.yaml_direct.proofs.byte.is_mark.Goals.{then-place-text, else-place-text}
use Rattle.yaml_grammar.specs.Bytes.{at}

pub returns-then-text-place-clause-same : goal.returns-then-text-place-clause-same
returns-then-text-place-clause-same c =
    let here : at c.args.text.now c.args.place ≡ c.args.byte = elim c.if-place-text.branch [
      | then-place-text w ↦ eqb-true _ _ (sym w.value-is ∙ c.if-text-place.true)
      | else-place-text w ↦ absurd (grind (arith, c.if-text-place.true, w.value-is, w.if-place-text))
    ] in
    λ h some. mark_is c.args.text.now c.args.byte c.args.place c.is_gap.result h here c.is_gap.ensures
