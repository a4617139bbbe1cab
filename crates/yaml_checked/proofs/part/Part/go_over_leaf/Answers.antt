-- Behind a leaf nothing else is open than before, as behind any alias.
use Rattle.std.proofs.Common.{[], subst}
use Rattle.yaml_base.specs.PlainEvent.{alias}
use Rattle.yaml_load.specs.StreamPhases.{Moves}
use Rattle.yaml_checked.proofs.part.Part.go_over_leaf.Goals as goal

pub invariant_of-self : goal.invariant_of-self
invariant_of-self c =
    let phase = c.self.inside.phase in
    let items = c.self.inside.outer.items in
    (subst (Moves phase items (alias []) items) c.in-Some.is (c.after_leaf.ensures.alias items [] c.self.invariant)).1
