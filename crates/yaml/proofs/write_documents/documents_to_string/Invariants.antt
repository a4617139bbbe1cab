-- A document was begun for each value so far.
use Rattle.std.proofs.Common.{◌≡◌}
use Rattle.yaml.proofs.write_documents.documents_to_string.Given as goal

abbrev pub invariant-loop-value : goal.invariant-loop-value
invariant-loop-value g l = l.printer.begun ≡ l.value-index
