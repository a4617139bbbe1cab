-- A shape of a kind is in its table.
use Rattle.std.proofs.Common.{◌≡◌, ℕ, ◌<◌, List, Bool, true, length}
use Rattle.yaml_shape.specs.PlainShape.{PlainShape}
use Rattle.yaml_meaning.specs.Kinds.{has_kind}
use Rattle.yaml_read.proofs.KindLaws as reading

pub kind_within : (kind : PlainShape → Bool) (table : List PlainShape) (id : ℕ) → has_kind kind table id ≡ true
    → id < length table
kind_within kind table id h = reading.kind_within kind table id h
