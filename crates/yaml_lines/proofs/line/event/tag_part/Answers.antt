-- Where the tag isn't closed, or is no text with escapes, there is no tag.
use Rattle.std.proofs.Common.{ap, ◌∙◌, ◌∷◌}
use Rattle.yaml_lines.proofs.EventLaws.{no_close, no_tag}
use Rattle.yaml_lines.proofs.Exits.{absent, present, refused, passed}
use Rattle.yaml_lines.proofs.line.event.tag_part.Goals as goal

pub returns-in_err-name : goal.returns-in_err-name
returns-in_err-name c = refused _ _ c.from_residual.ensures.0 (λ found.
    no_close _ _ c.in-Some.ensures (absent _ _ _ _ _ c.cut.ensures c.ok_or.ensures.ok_part c.in_err-name.was) found.0
    found.1)

pub returns-in_err-unescape : goal.returns-in_err-unescape
returns-in_err-unescape c =
    let name = present _ _ _ _ _ c.cut.ensures c.ok_or.ensures.ok_part c.in_ok-name.was in
    passed _ _ _ c.from_residual-in_err-unescape.ensures.1 (λ bad found.
    no_tag _ _ _ (c.in-Some.ensures ∙ ap (λ t. 32 ∷ 60 ∷ t) name.0) name.1
    (c.in_err-unescape.ensures bad) found.0 found.1)
