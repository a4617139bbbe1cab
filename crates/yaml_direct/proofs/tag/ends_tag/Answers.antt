-- A gap.
use Rattle.std.proofs.Common.{◌≡◌, ◌∙◌, sym, true}
use Rattle.std.proofs.lemmas.Bool.{or_left}
use Rattle.yaml_direct.proofs.TextLaws.{gap_same}
use Rattle.yaml_direct.proofs.tag.ends_tag.Goals as goal
use Rattle.yaml_grammar.specs.Bytes.{at, is_gap}

pub returns-then-is_gap : goal.returns-then-is_gap
returns-then-is_gap c =
    let text = c.args.text.now in
    let byte = at text c.args.place in
    λ h.
    let gap : is_gap byte ≡ true = sym (gap_same text c.args.place h) ∙ (sym c.is_gap.ensures ∙ c.if-is_gap.true) in
    c.if-is_gap.true ∙ sym (or_left (is_gap byte) _ gap)
