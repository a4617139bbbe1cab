use Rattle.std.proofs.Common.{◌^◌, ◌-◌, pos, neg_ℤ}
use Rattle.yaml_base.proofs.RangeLaws.{negative_of-decimal}
use Rattle.yaml_base.proofs.resolver.integer.negative.Goals as goal

pub returns : goal.returns
returns c = negative_of-decimal (neg_ℤ (pos (2 ^ 127))) (pos (2 ^ 127 - 1)) _ c.args.text.now _ _ _ _
    c.split_sign-negative.ensures.rest c.split_sign-negative.ensures.minus c.if-negative.false c.in_ok-size.ensures
    c.under_sign.ensures
