use Rattle.std.proofs.Common.{◌≡◌, map, take, drop, length}
use Rattle.yaml_base.specs.EmitEvents.{emit_of}
use Rattle.yaml_ambiguous.specs.Quoting.{unambiguous}
use Rattle.yaml_ambiguous.proofs.events.quote_each.Given as goal

-- the events before the index have their quotes, and the others are as they were
abbrev pub invariant-loop-index : goal.invariant-loop-index
invariant-loop-index l =
    (map emit_of (take l.index l.events.items) ≡ map unambiguous (map emit_of (take l.index l.initial.events.items)))
    × ((drop l.index l.events.items ≡ drop l.index l.initial.events.items)
    × (length l.events.items ≡ length l.initial.events.items))
