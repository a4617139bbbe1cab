-- Where the first word is no anchor's name, there is no anchor.
use Rattle.std.proofs.Common.{ap, ◌∙◌, ◌∷◌}
use Rattle.yaml_lines.proofs.EventLaws.{no_anchor}
use Rattle.yaml_lines.proofs.Exits.{passed}
use Rattle.yaml_lines.proofs.line.event.anchor_part.Goals as goal

pub returns-in_err-anchor_named : goal.returns-in_err-anchor_named
returns-in_err-anchor_named c = passed _ _ _ c.from_residual.ensures.1 (λ bad found.
    no_anchor _ _ _ (c.in-Some.ensures ∙ ap (λ t. 32 ∷ 38 ∷ t) c.word_of.ensures.split) c.word_of.ensures.unspaced
    c.word_of.ensures.ended
    (c.in_err-anchor_named.ensures bad) found.0 found.1)
