-- The text ends amid the escape.
use Rattle.std.proofs.Common.{refl}
use Rattle.yaml_direct.proofs.EscapeLaws.{ends_early}
use Rattle.yaml_direct.proofs.escape.read_escape.Goals as goal

pub returns-then-text-place-clause-read : goal.returns-then-text-place-clause-read
returns-then-text-place-clause-read c =
    λ is feed. (
      λ other. absurd (other refl),
      λ same. ends_early c.args.text.now c.args.place c.at-byte.result c.digits_of-digits.result is
          c.at-byte.ensures.value c.requires c.digits_of-digits.ensures c.if-text-place.true,
    )
