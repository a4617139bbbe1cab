-- What the walk keeps: the answer is that for the elements that are left, and where these are held, all are.
use Rattle.std.specs.Prelude.{◌≡◌, drop}
use Rattle.yaml_shape.specs.DataView.{items_view}
use Rattle.yaml_shape.specs.HasShape.{all_have}
use Rattle.yaml_shape.specs.Held.{AreHeld}
use Rattle.yaml_shape.proofs.has_shape.all_are_of_type.Given as goal

abbrev pub invariant-loop-item : goal.invariant-loop-item
invariant-loop-item l =
    (all_have l.schema l.id.0 (items_view l.items) ≡ all_have l.schema l.id.0 (items_view (drop l.item-index l.items)))
    × (AreHeld (items_view (drop l.item-index l.items)) → AreHeld (items_view l.items))
