-- The key that is found is the first of what is left.
use Rattle.std.proofs.Common.{sym, ◌∙◌, true}
use Rattle.yaml_value.specs.PlainEqual.{plain_eq}
use Rattle.yaml_value.specs.PlainValue.{text}
use Rattle.yaml_value.proofs.Equals.{place_where-step}
use Rattle.yaml_value.proofs.value.equal.text_in_order.Goals as goal

pub returns-then-has_text-clause-place : goal.returns-then-has_text-clause-place
returns-then-has_text-clause-place c =
    sym (c.loop-i.invariant
    ∙ place_where-step c.loop-i.i (plain_eq (text c.args.text.now)) c.args.entries.now c.index-entries-i.result true
    c.loop-i-test.true c.index-entries-i.is (sym c.has_text.ensures ∙ c.if-has_text.true))
