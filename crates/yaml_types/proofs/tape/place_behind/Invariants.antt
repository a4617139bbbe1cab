-- Behind here, where so many collections are open, stands what stands behind the node.
use Rattle.std.specs.Prelude.{◌≡◌}
use Rattle.yaml_tape.specs.OnDocs.{docs_from}
use Rattle.yaml_types.specs.Behind.{behind}
use Rattle.yaml_types.proofs.tape.place_behind.Given as goal

abbrev pub invariant-loop-at : goal.invariant-loop-at
invariant-loop-at l = behind l.depth (docs_from l.tape l.at) ≡ behind 0 (docs_from l.tape l.fn.place)
