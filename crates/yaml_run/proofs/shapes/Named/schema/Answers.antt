-- The table of a named shape is refused for want of memory alone.
use Rattle.std.proofs.Common.{◌≡◌}
use Rattle.std.proofs.lemmas.Result.{IfErr-weaker}
use Rattle.yaml_shape.specs.SchemaRefusal.{IsRefused}
use Rattle.yaml_shape.specs.declared.fault.SchemaFault.TheVariants.{Memory}
use Rattle.yaml_run.specs.Shapes.{table_of}
use Rattle.yaml_run.proofs.ShapeLaws.{only_memory}
use Rattle.yaml_run.proofs.shapes.Named.schema.Goals as goal

pub returns-in-Ok-clause-memory : goal.returns-in-Ok-clause-memory
returns-in-Ok-clause-memory c =
    IfErr-weaker c.new.result (IsRefused (table_of c.args.self)) (λ fault. fault ≡ Memory) (only_memory c.args.self)
    (rw c.in-Ok.ensures at c.new.ensures.refused)
