-- A text of ASCII is allowed where each of its bytes is.
use Rattle.std.proofs.Common.{◌≡◌, refl, subst, true}
use Rattle.yaml_scan.proofs.Characters.{ascii_allowed}
use Rattle.yaml_scan.proofs.reader.is_allowed_ascii.Goals as goal

pub returns-then-is_ascii : goal.returns-then-is_ascii
returns-then-is_ascii c =
    λ all. ascii_allowed c.args.text.now (c.if-is_ascii.ensures refl)
    (subst (λ b. b ≡ true) c.has_allowed_codes.ensures all)
