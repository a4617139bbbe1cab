use Rattle.yaml_scalar.proofs.IntegerLaws.{unsigned-held, unsigned-answers}
use Rattle.yaml_scalar.proofs.integer_text.small_unsigned_of.Goals as goal

pub returns-clause-held : goal.returns-clause-held
returns-clause-held c =
    let small = c.small_unsigned.ensures in
    unsigned-held _ _ _ c.requires c.small_greatest.ensures small.most

pub returns-clause-value : goal.returns-clause-value
returns-clause-value c =
    let small = c.small_unsigned.ensures in
    unsigned-answers _ _ c.args.text.now _ c.requires c.small_greatest.ensures small.text small.value small.small
    small.most
