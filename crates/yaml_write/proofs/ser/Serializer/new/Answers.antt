-- A serializer begins with nothing open.
use Rattle.std.proofs.Common.{◌≡◌, ◌∷◌, [], rules, subst}
use Rattle.yaml_base.specs.EmitEvents.{emit_stream_start}
use Rattle.yaml_write.specs.Begun.{IsBegun}
use Rattle.yaml_write.specs.CollectionView.{open_collections}
use Rattle.yaml_write.specs.Writing.{Writing}
use Rattle.yaml_write.proofs.BegunLaws.{at_first}
use Rattle.yaml_write.proofs.ser.Serializer.new.Goals as goal

pub invariant_of-result : goal.invariant_of-result
invariant_of-result c =
    let start : Writing = record { events = emit_stream_start ∷ []; opened = [] } in
    let is : start ≡ record { events = c.push.new.self; opened = open_collections c.new-2.result.items } = search rules in
    subst IsBegun is at_first
