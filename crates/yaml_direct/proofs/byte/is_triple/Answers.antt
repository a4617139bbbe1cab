use Rattle.std.proofs.Common.{◌≡◌, ◌+◌, sym, ◌∙◌, arith, true}
use Rattle.std.proofs.lemmas.Bool.{eqb-true}
use Rattle.yaml_direct.proofs.TextLaws.{triple_is}
use Rattle.yaml_direct.proofs.byte.is_triple.Goals as goal
use Rattle.yaml_direct.proofs.byte.is_triple.Goals.{then-place-text, else-place-text, then-text-place, else-text-place}
use Rattle.yaml_direct.proofs.byte.is_triple.Goals.{then-at-byte, else-at-byte}
use Rattle.yaml_grammar.specs.Bytes.{at}

pub returns-then-at-byte-2-clause-same : goal.returns-then-at-byte-2-clause-same
returns-then-at-byte-2-clause-same c =
    let third : (at c.args.text.now (c.args.place + 2) ≡ c.args.byte) × (c.if-text-place.value ≡ true)
    = elim c.if-at-byte.branch [
      | then-at-byte w ↦ (sym w.at-then-at-byte.ensures.value ∙ eqb-true _ _ (sym w.value-is ∙ c.if-at-byte-2.true), w.if-at-byte.true)
      | else-at-byte w ↦ absurd (grind (arith, c.if-at-byte-2.true, w.value-is, w.if-at-byte))
    ] in
    let second : (at c.args.text.now (c.args.place + 1) ≡ c.args.byte) × (c.if-place-text.value ≡ true)
    = elim c.if-text-place.branch [
      | then-text-place w ↦ (sym w.at.ensures.value ∙ eqb-true _ _ (sym w.value-is ∙ third.1), w.if-text-place.true)
      | else-text-place w ↦ absurd (grind (arith, third.1, w.value-is, w.if-text-place))
    ] in
    let first : at c.args.text.now c.args.place ≡ c.args.byte = elim c.if-place-text.branch [
      | then-place-text w ↦ eqb-true _ _ (sym w.value-is ∙ second.1)
      | else-place-text w ↦ absurd (grind (arith, second.1, w.value-is, w.if-place-text))
    ] in
    λ h. triple_is c.args.text.now c.args.byte c.args.place c.is_gap.result h first second.0 third.0 c.is_gap.ensures
