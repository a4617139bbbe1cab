use Rattle.yaml_scalar.proofs.IntegerLaws.{signed-held, signed-answers}
use Rattle.yaml_scalar.proofs.integer_text.small_signed_of.Goals as goal

pub returns-clause-held : goal.returns-clause-held
returns-clause-held c =
    let small = c.small_signed.ensures in
    signed-held _ _ _ c.requires c.small_greatest.ensures small.least small.most

pub returns-clause-value : goal.returns-clause-value
returns-clause-value c =
    let small = c.small_signed.ensures in
    signed-answers _ c.args.text.now _ c.requires small.text small.value small.low small.high
    (signed-held _ _ _ c.requires c.small_greatest.ensures small.least small.most)
