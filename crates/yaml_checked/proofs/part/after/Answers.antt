-- A leaf may stand where the phase says so, whatever it is.
use Rattle.std.proofs.Common.{subst, sym}
use Rattle.yaml_base.specs.PlainEvent.{event_of}
use Rattle.yaml_load.specs.StreamPhases.{Moves}
use Rattle.yaml_checked.proofs.part.after.Goals as goal

pub returns-in-Alias : goal.returns-in-Alias
returns-in-Alias c =
    let items = c.args.outer.now.items in
    subst (λ e. Moves c.args.phase items (event_of e) items c.after_leaf.result) (sym c.in-Alias.is)
    (c.after_leaf.ensures.alias items _ c.requires)

pub returns-in-Scalar : goal.returns-in-Scalar
returns-in-Scalar c =
    let items = c.args.outer.now.items in
    subst (λ e. Moves c.args.phase items (event_of e) items c.after_leaf-in-Scalar.result) (sym c.in-Scalar.is)
    (c.after_leaf-in-Scalar.ensures.scalar items _ c.requires)
