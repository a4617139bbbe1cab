-- What was copied so far is the names so far.
use Rattle.std.proofs.Common.{◌≡◌, take}
use Rattle.yaml_shape.specs.ShapeView.{variants_of}
use Rattle.yaml_shape.specs.Validity.{names_of}
use Rattle.yaml_scalar.proofs.variant_names.names.Given as goal

abbrev pub invariant-loop-variant : goal.invariant-loop-variant
invariant-loop-variant l = l.names.items ≡ names_of (variants_of (take l.variant-index l.variants))
