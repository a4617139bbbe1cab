-- The letter is that of an escape.
use Rattle.std.proofs.Common.{ap, ◌∙◌, ◌∷◌}
use Rattle.yaml_lines.proofs.EscapeLaws.{begins_backslash, begins_line_feed, begins_tab}
use Rattle.yaml_lines.proofs.escape.after_backslash.Goals as goal

pub returns-in-92 : goal.returns-in-92
returns-in-92 c = begins_backslash _ _ _ c.in_ok-letter.ensures.cases.0 c.in-92.is

pub returns-in-110 : goal.returns-in-110
returns-in-110 c = begins_line_feed _ _ _ c.in_ok-letter.ensures.cases.0 c.in-110.is

pub returns-in-116 : goal.returns-in-116
returns-in-116 c = begins_tab _ _ _ c.in_ok-letter.ensures.cases.0 c.in-116.is

pub returns-in-120 : goal.returns-in-120
returns-in-120 c =
    rw (c.in_ok-letter.ensures.cases.0 ∙ ap (λ b. b ∷ c.in_ok-letter.rest.now) c.in-120.is) c.hex_byte.ensures
