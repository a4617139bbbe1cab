-- The key that is found is the first of what is left.
use Rattle.std.proofs.Common.{ap, sym, ◌∙◌, true, false}
use Rattle.yaml_value.specs.PlainEqual.{plain_eq}
use Rattle.yaml_value.specs.View.{plain}
use Rattle.yaml_value.proofs.Equals.{place_where-step}
use Rattle.yaml_value.proofs.value.equal.place_in_order.Goals as goal

pub returns-then-same_value-clause-place : goal.returns-then-same_value-clause-place
returns-then-same_value-clause-place c =
    let k = plain c.args.key.now in
    sym (c.loop-i.invariant
    ∙ place_where-step c.loop-i.i (plain_eq k) c.args.entries.now c.index-entries-i.result true
    c.loop-i-test.true c.index-entries-i.is
    (ap (λ e. plain_eq k (plain e.key)) c.index-entries-i.is ∙ (sym c.same_value.ensures ∙ c.if-same_value.true)))

pub loop-i-preserved : goal.loop-i-preserved
loop-i-preserved c =
    let k = plain c.args.key.now in
    c.loop-i.invariant
    ∙ place_where-step c.loop-i.i (plain_eq k) c.args.entries.now c.index-entries-i.result false
    c.loop-i-test.true c.index-entries-i.is
    (ap (λ e. plain_eq k (plain e.key)) c.index-entries-i.is ∙ (sym c.same_value.ensures ∙ c.if-same_value.false))
