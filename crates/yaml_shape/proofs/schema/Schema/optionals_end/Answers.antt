-- The ranks of a valid schema.
use Rattle.yaml_shape.proofs.Ranks.{rank_small, rank_falls}
use Rattle.yaml_shape.proofs.schema.Schema.optionals_end.Goals as goal

pub returns-clause-small : goal.returns-clause-small
returns-clause-small c = rank_small c.args.self.now c.is_valid.ensures

pub returns-clause-falls : goal.returns-clause-falls
returns-clause-falls c = rank_falls c.args.self.now c.is_valid.ensures
