-- What completes the phase from this place on completes the document's node.
use Rattle.std.specs.Prelude.{List, Option}
use Rattle.yaml_base.specs.PlainDocEvent.{PlainDocEvent}
use Rattle.yaml_base.specs.StreamMachine.{before_root}
use Rattle.yaml_load.specs.StreamPhases.{IsClean, phase_state}
use Rattle.yaml_tape.specs.OnDocs.{docs_from}
use Rattle.yaml.specs.OneNode.{Completes}
use Rattle.yaml.proofs.tape_document.is_node.Given as goal

abbrev pub invariant-entries : goal.invariant-entries
invariant-entries l =
    IsClean l.phase l.outer.items
    × ((rest : List (Option PlainDocEvent))
    → Completes (phase_state l.phase l.outer.items) (docs_from l.tape l.place) rest
    → Completes before_root (docs_from l.tape 2) rest)
