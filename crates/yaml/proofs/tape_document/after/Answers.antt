-- Each entry of a node stands before what is missing behind it.
use Rattle.std.proofs.Common.{subst, sym}
use Rattle.std.specs.Prelude.{IfSome}
use Rattle.yaml_base.specs.PlainEvent.{mapping_end, scalar, sequence_end}
use Rattle.yaml_load.specs.StreamPhases.{phase_state}
use Rattle.yaml_tape.specs.declared.entry.EntryKind.TheVariants as kind
use Rattle.yaml.specs.OneNode.{IsStep}
use Rattle.yaml.proofs.OneNode.{goes_on, mapping_end_is_step, no_scalar, scalar_is_step, sequence_end_is_step}
use Rattle.yaml.proofs.OneNode.{stays_clean}
use Rattle.yaml.proofs.tape_document.after.Goals as goal

pub returns-in-Scalar-clause-clean : goal.returns-in-Scalar-clause-clean
returns-in-Scalar-clause-clean c =
    stays_clean c.args.phase c.args.outer.now.items _ (scalar no_scalar) c.after_leaf.result
    (c.after_leaf.ensures.scalar c.args.outer.now.items no_scalar c.requires)

pub returns-in-Scalar-clause-step : goal.returns-in-Scalar-clause-step
returns-in-Scalar-clause-step c =
    let outer = c.args.outer.now.items in
    subst (λ k. IfSome c.after_leaf.result (λ p. IsStep (phase_state c.args.phase outer) k (phase_state p outer)))
    (sym c.in-Scalar.is)
    (goes_on c.args.phase outer outer kind.Scalar (scalar no_scalar) c.after_leaf.result
    (λ new h. scalar_is_step (phase_state c.args.phase outer) new no_scalar h)
    (c.after_leaf.ensures.scalar outer no_scalar c.requires))

pub returns-in-SequenceEnd-clause-step : goal.returns-in-SequenceEnd-clause-step
returns-in-SequenceEnd-clause-step c =
    let old = c.args.outer.now.items in
    let new = c.after_sequence.new.outer.items in
    subst (λ k. IfSome c.after_sequence.result (λ p. IsStep (phase_state c.args.phase old) k (phase_state p new)))
    (sym c.in-SequenceEnd.is)
    (goes_on c.args.phase old new kind.SequenceEnd sequence_end c.after_sequence.result
    (λ state h. sequence_end_is_step (phase_state c.args.phase old) state h) c.after_sequence.ensures.moves)

pub returns-in-MappingEnd-clause-step : goal.returns-in-MappingEnd-clause-step
returns-in-MappingEnd-clause-step c =
    let old = c.args.outer.now.items in
    let new = c.after_mapping.new.outer.items in
    subst (λ k. IfSome c.after_mapping.result (λ p. IsStep (phase_state c.args.phase old) k (phase_state p new)))
    (sym c.in-MappingEnd.is)
    (goes_on c.args.phase old new kind.MappingEnd mapping_end c.after_mapping.result
    (λ state h. mapping_end_is_step (phase_state c.args.phase old) state h) c.after_mapping.ensures.moves)
