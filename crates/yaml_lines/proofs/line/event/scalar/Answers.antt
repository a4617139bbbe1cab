-- A scalar has an anchor and a tag or the lack of them, a style and a text.
use Rattle.yaml_lines.proofs.EventLaws.{no_scalar, no_content}
use Rattle.yaml_lines.proofs.Exits.{passed}
use Rattle.yaml_lines.proofs.line.event.scalar.Goals as goal

pub returns-in_err-anchor : goal.returns-in_err-anchor
returns-in_err-anchor c = passed _ _ _ c.from_residual.ensures.1 (λ bad.
    no_scalar _ (λ anchor tag rest. c.in_err-anchor.ensures bad (anchor, tag, rest)))

pub returns-in_err-style : goal.returns-in_err-style
returns-in_err-style c = passed _ _ _ c.from_residual-in_err-style.ensures.1 (λ bad.
    no_content _ _ _ _ c.in_ok-anchor.ensures (λ style value. c.in_err-style.ensures bad (style, value)))
