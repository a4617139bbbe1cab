-- Which word it is.
use Rattle.std.proofs.Common.{true, false, sym}
use Rattle.yaml_float.proofs.Laws.{word_nan, word_inf}
use Rattle.yaml_float.proofs.print.word_f64.Goals as goal

pub returns-then-is_nan : goal.returns-then-is_nan
returns-then-is_nan c = word_nan c.args.x (sym c.if-is_nan.ensures.value)

pub returns-then-is_sign_negative : goal.returns-then-is_sign_negative
returns-then-is_sign_negative c = word_inf c.args.x true c.requires (sym c.if-is_nan.ensures.value)
    (sym c.if-is_sign_negative.ensures)

pub returns-else-is_sign_negative : goal.returns-else-is_sign_negative
returns-else-is_sign_negative c = word_inf c.args.x false c.requires (sym c.if-is_nan.ensures.value)
    (sym c.if-is_sign_negative.ensures)
