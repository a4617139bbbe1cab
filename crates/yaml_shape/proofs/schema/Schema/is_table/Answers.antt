-- The shapes of a schema are held in memory.
use Rattle.yaml_shape.proofs.HeldLaws.{shapes_are_held}
use Rattle.yaml_shape.proofs.schema.Schema.is_table.Goals as goal

pub returns : goal.returns
returns c = rw (← c.self.view_is) (shapes_are_held c.self.inside.shapes.items)
