-- A parser's fault, as contracts see it.
use Rattle.std.specs.Prelude.{ℕ, List, Option}
use Rattle.yaml_base.specs.Position.{Position}
use Rattle.yaml_base.specs.declared.fault.FaultKind.{FaultKind}

-- a problem at a mark or an offset, and what was being read there
pub record PlainFault : Type 0 where
  pub kind : FaultKind
  pub problem : List ℕ
  pub offset : ℕ
  pub mark : Position
  pub context : Option (List ℕ)
  pub context_mark : Position
