-- The text ends the source.
use Rattle.yaml_checked.proofs.RangeLaws.{text_at_end}
use Rattle.yaml_checked.proofs.scalar.plain_value.Goals as goal

pub returns-in-Some-clause-value : goal.returns-in-Some-clause-value
returns-in-Some-clause-value c =
    let there = c.in-Some.ensures.places in
    text_at_end c.args.tape.now c.args.entry c.args.repr.now c.in-Some.value.now c.requires there.0 there.1 there.2
    c.in-Some.ensures.value
