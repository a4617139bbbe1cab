-- Nothing stands behind the sign.
use Rattle.std.proofs.Common.{◌∙◌, sym}
use Rattle.yaml_direct.proofs.BareHeader.{bare_header}
use Rattle.yaml_direct.proofs.header.read_header.Goals as goal

pub returns-then-at-eq10-clause-read : goal.returns-then-at-eq10-clause-read
returns-then-at-eq10-clause-read c =
    λ h short. bare_header c.args.text.now c.args.from c.requires short (sym c.at.ensures.value ∙ c.if-at-eq10.true)
