-- Different numbers of elements, and entries.
use Rattle.yaml_shape.proofs.DataLaws.{other_count, other_fields}
use Rattle.yaml_shape.proofs.has_shape.+has_shape.Goals as goal

pub each_has-returns-then-ids-items-clause-exactly : goal.each_has-returns-then-ids-items-clause-exactly
each_has-returns-then-ids-items-clause-exactly t c =
    other_count c.args.schema.now c.args.ids.now c.args.items.now c.if-ids-items.true

pub fields_have-returns-then-fields-items-clause-exactly : goal.fields_have-returns-then-fields-items-clause-exactly
fields_have-returns-then-fields-items-clause-exactly t c =
    other_fields c.args.schema.now c.args.fields.now c.args.items.now c.if-fields-items.true
