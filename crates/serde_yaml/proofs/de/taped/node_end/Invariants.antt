-- What stands behind the collections that are open here stands behind the node.
use Rattle.std.specs.Prelude.{◌≡◌}
use Rattle.yaml_tape.specs.OnDocs.{docs_from}
use Rattle.serde_yaml.specs.TapeReads.{behind}
use Rattle.serde_yaml.proofs.de.taped.node_end.Given as goal

abbrev pub invariant-entries : goal.invariant-entries
invariant-entries l = behind l.nested (docs_from l.tape l.place) ≡ behind 0 (docs_from l.tape 2)
