-- A digit more.
use Rattle.std.proofs.Common.{◌∙◌, ap}
use Rattle.std.specs.Char.{digit_value}
use Rattle.yaml_direct.proofs.EscapeLaws.{one_more}
use Rattle.yaml_direct.proofs.EscapePlaces.{digits_more}
use Rattle.yaml_direct.proofs.escape.code_at.Goals as goal

pub loop-index-preserved : goal.loop-index-preserved
loop-index-preserved c =
    let is = c.in_ok-digit.ensures.0 ∙ ap digit_value c.at.ensures.value in
    record {
      said = one_more c.args.text.now c.args.from c.args.digits c.loop-index.index c.loop-index.code
          c.in_ok-digit.digit c.requires.small c.loop-index-test.true is c.in_ok-digit.ensures.1
          c.loop-index.invariant.said;
      digits = digits_more c.args.text.now c.args.from c.loop-index.index c.in_ok-digit.digit is c.in_ok-digit.ensures.1
          c.loop-index.invariant.digits;
    }
