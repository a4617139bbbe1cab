-- The node stands between the start of the document and its end.
use Rattle.yaml_types.specs.NodeWrites.{written_node}
use Rattle.serde_yaml.proofs.WrittenDocuments.{document_put}
use Rattle.serde_yaml.proofs.documents.write_document.Goals as goal

pub returns-clause-taken : goal.returns-clause-taken
returns-clause-taken g c =
    document_put (written_node c.args.schema.now c.args.id.0 (g.T.Serialize.written c.args.value.now)) c.args.out.now
    c.start_document.new.self c.write_node.new.out c.end_document.new.self c.in_ok-start_document.ensures.added
    c.in_ok-write_node.ensures.put c.in_ok-end_document.ensures.added
