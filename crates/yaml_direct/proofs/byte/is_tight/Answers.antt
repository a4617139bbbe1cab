use Rattle.std.proofs.Common.{◌≡◌, ◌+◌, ◌==◌, ◌∙◌, ap, not, refl, sym, true}
use Rattle.std.proofs.lemmas.Bool.{eq-eqb}
use Rattle.yaml_direct.proofs.TextLaws.{gap_same}
use Rattle.yaml_direct.proofs.byte.is_tight.Goals as goal
use Rattle.yaml_grammar.specs.Bytes.{at}

pub returns-then-at-eq58 : goal.returns-then-at-eq58
returns-then-at-eq58 c =
    let text = c.args.text.now in
    let colon : (at text c.args.place == 58) ≡ true =
    eq-eqb (at text c.args.place) 58 (sym c.at.ensures.value ∙ c.if-at-eq58.true) in
    λ h. ap not (c.is_gap.ensures ∙ gap_same text (c.args.place + 1) h) ∙ sym (rw colon refl)
