-- Different numbers of elements.
use Rattle.yaml_round.proofs.SurvivesLaws.{other_count, other_fields}
use Rattle.yaml_round.proofs.fit.+survives.Goals as goal

pub each_survives-returns-then-ids-items : goal.each_survives-returns-then-ids-items
each_survives-returns-then-ids-items t c =
    other_count c.args.schema.now c.args.ids.now c.args.depth c.args.items.now c.if-ids-items.true

pub fields_survive-returns-then-fields-items : goal.fields_survive-returns-then-fields-items
fields_survive-returns-then-fields-items t c =
    other_fields c.args.schema.now c.args.fields.now c.args.depth c.args.items.now c.if-fields-items.true
