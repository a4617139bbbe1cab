-- What an emitter shows.
use Rattle.std.specs.Prelude.{Bool, List}
use Rattle.yaml_base.specs.EmitEvents.{PlainEmit}

-- the events that an emitter has taken, and whether memory ran out behind them
pub record Emitted : Type 0 where
  pub taken : List PlainEmit
  pub failed : Bool
