-- Where no anchor can stand, or no tag behind it, the text is refused.
use Rattle.yaml_lines.proofs.EventLaws.{no_tag_behind}
use Rattle.yaml_lines.proofs.Exits.{passed}
use Rattle.yaml_lines.proofs.line.event.properties.Goals as goal

pub returns-in_err-anchor : goal.returns-in_err-anchor
returns-in_err-anchor c =
    passed _ _ _ c.from_residual.ensures.1 (λ bad found h. c.in_err-anchor.ensures bad
    (found.0, h.behind_anchor) h.has_anchor)

pub returns-in_err-tag : goal.returns-in_err-tag
returns-in_err-tag c = passed _ _ _ c.from_residual-in_err-tag.ensures.1 (λ bad found.
    no_tag_behind _ _ _ c.in_ok-anchor.ensures (λ tag rest. c.in_err-tag.ensures bad
    (tag, rest)) found.0 found.1 found.2)
