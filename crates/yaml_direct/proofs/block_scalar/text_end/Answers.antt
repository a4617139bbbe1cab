-- No carriage return stands there.
use Rattle.std.proofs.Common.{◌-◌}
use Rattle.yaml_direct.proofs.TextLaws.{no_return}
use Rattle.yaml_direct.proofs.block_scalar.text_end.Goals as goal

pub returns-then-text-feed-eq13-clause-same : goal.returns-then-text-feed-eq13-clause-same
returns-then-text-feed-eq13-clause-same c =
    λ h. absurd (no_return c.args.text.now (c.args.feed - 1) h c.if-text-feed-eq13.true)
