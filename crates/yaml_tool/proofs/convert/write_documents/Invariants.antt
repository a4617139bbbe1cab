-- Nothing is open between two documents.
use Rattle.std.proofs.Common.{◌≡◌, []}
use Rattle.yaml_tool.proofs.convert.write_documents.Given as goal

abbrev pub invariant-loop-document : goal.invariant-loop-document
invariant-loop-document l = l.out.opened ≡ []
