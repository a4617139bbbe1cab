-- A text begins with an escape or a byte that stands for itself.
use Rattle.std.proofs.Common.{ap, ◌∙◌, ◌∷◌}
use Rattle.yaml_lines.proofs.EscapeLaws.{begins_itself}
use Rattle.yaml_lines.proofs.escape.first_byte.Goals as goal

pub returns-then-byte-eq92 : goal.returns-then-byte-eq92
returns-then-byte-eq92 c =
    rw (c.in_ok-first.ensures.cases.0 ∙ ap (λ b. b ∷ c.in_ok-first.rest.now) c.if-byte-eq92.true)
    c.after_backslash.ensures

pub returns-then-byte-le126 : goal.returns-then-byte-le126
returns-then-byte-le126 c =
    begins_itself _ _ _ c.in_ok-first.ensures.cases.0 c.if-byte-ge32.true c.if-byte-le126.true c.if-byte-eq92.false
