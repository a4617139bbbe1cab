-- A line with a word for an event, and no such event behind it, is no event.
use Rattle.yaml_lines.proofs.Exits.{passed}
use Rattle.yaml_lines.proofs.WordLaws.{no_scalar_text, no_sequence_text, no_mapping_text}
use Rattle.yaml_lines.proofs.line.event.parse.Goals as goal

pub returns-in_err-scalar : goal.returns-in_err-scalar
returns-in_err-scalar c =
    passed _ _ _ c.from_residual.ensures.1 (λ bad. no_scalar_text _ _ c.in-Some.ensures (c.in_err-scalar.ensures bad))

pub returns-in_err-anchor : goal.returns-in_err-anchor
returns-in_err-anchor c = passed _ _ _ c.from_residual-in_err-anchor.ensures.1 (λ bad.
    no_sequence_text _ _ c.in-Some-strip.ensures (λ anchor tag. c.in_err-anchor.ensures bad (anchor, tag)))

pub returns-in_err-anchor-2 : goal.returns-in_err-anchor-2
returns-in_err-anchor-2 c = passed _ _ _ c.from_residual-in_err-anchor-2.ensures.1 (λ bad.
    no_mapping_text _ _ c.in-Some-strip-2.ensures (λ anchor tag. c.in_err-anchor-2.ensures bad (anchor, tag)))
