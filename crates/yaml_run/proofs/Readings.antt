-- The shapes of tables that have names.
use Rattle.std.proofs.Common.{◌≡◌, Some, refl}
use Rattle.yaml_shape.specs.PlainShape.{shape_at}
use Rattle.yaml_run.specs.Shapes.{table_of, first_shape}
use Rattle.yaml_run.specs.declared.shapes.Named.{Named}
use Rattle.yaml_run.specs.declared.shapes.Named.TheVariants as named

-- the table of a shape begins with it
pub is_first : (n : Named) → shape_at (table_of n) 0 ≡ Some (first_shape n)
is_first named.Bool = refl
is_first named.I64 = refl
is_first named.Str = refl
is_first named.List = refl
is_first named.Map = refl
is_first named.Any = refl
is_first named.Ignored = refl
is_first named.U64 = refl
is_first named.Option = refl
is_first named.Pair = refl
is_first named.Basic = refl
is_first named.Strict = refl
is_first named.Outer = refl
