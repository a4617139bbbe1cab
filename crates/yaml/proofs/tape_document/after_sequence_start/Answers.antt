-- What begins a sequence stands before what is missing in it.
use Rattle.std.proofs.Common.{None, refl}
use Rattle.yaml_base.specs.PlainEvent.{sequence_start}
use Rattle.yaml_load.specs.StreamPhases.{phase_state}
use Rattle.yaml_tape.specs.declared.entry.EntryKind.TheVariants as kind
use Rattle.yaml.proofs.OneNode.{goes_on, sequence_is_step, stays_clean}
use Rattle.yaml.proofs.tape_document.after_sequence_start.Goals as goal

pub returns-in-Ok-clause-clean : goal.returns-in-Ok-clause-clean
returns-in-Ok-clause-clean c =
    stays_clean c.args.phase c.args.outer.now.items _ (sequence_start None None) c.in-Ok.found
    (c.in-Ok.ensures.sequence refl None None)

pub returns-in-Ok-clause-step : goal.returns-in-Ok-clause-step
returns-in-Ok-clause-step c =
    goes_on c.args.phase c.args.outer.now.items _ kind.SequenceStart (sequence_start None None) c.in-Ok.found
    (λ new h. sequence_is_step (phase_state c.args.phase c.args.outer.now.items) new None None h)
    (c.in-Ok.ensures.sequence refl None None)
