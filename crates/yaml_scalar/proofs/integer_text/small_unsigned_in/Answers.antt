use Rattle.std.proofs.Common.{sym}
use Rattle.yaml_base.specs.DocEventView.{doc_scalar_of}
use Rattle.yaml_scalar.proofs.IntegerLaws.{unsigned-held, unsigned-there}
use Rattle.yaml_scalar.proofs.integer_text.small_unsigned_in.Goals as goal

pub returns-clause-held : goal.returns-clause-held
returns-clause-held c =
    let small = c.small_unsigned.ensures in
    unsigned-held _ _ _ c.requires c.small_greatest-greatest.ensures small.most

pub returns-clause-value : goal.returns-clause-value
returns-clause-value c =
    let plain = sym c.if-not-is_plain.ensures in
    let small = rw c.deref.ensures.value at c.small_unsigned.ensures in
    unsigned-there _ (doc_scalar_of c.args.scalar.now) _ c.requires plain small.text small.value small.small
