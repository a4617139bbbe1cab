-- The pairs behind ascend, and with what the entries in front make they are what all make.
use Rattle.std.specs.Prelude.{length}
use Rattle.std.specs.List.Sorted.{IsStrictlySortedBy}
use Rattle.std.specs.Map.{keys_of}
use Rattle.yaml_types.proofs.MapFilling.{IsFront}
use Rattle.yaml_types.proofs.impls.map.build_entries.Given as goal

abbrev pub invariant-loop-pair : goal.invariant-loop-pair
invariant-loop-pair g l =
    IsStrictlySortedBy g.K.Ord.cmp (keys_of l.behind.entries)
    × IsFront g.K.Deserialize.start g.V.Deserialize.start g.K.Ord.cmp g.K.Deserialize.built g.V.Deserialize.built
    g.K.Deserialize.refused g.V.Deserialize.refused l.fn.entries.items l.front.items l.behind.entries

abbrev pub decreases-loop-pair : goal.decreases-loop-pair
decreases-loop-pair g l = length l.front.items
