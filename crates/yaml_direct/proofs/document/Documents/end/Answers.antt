-- No document is left.
use Rattle.yaml_direct.proofs.DocumentReads.{text_ends}
use Rattle.yaml_direct.proofs.document.Documents.end.Goals as goal

pub returns-clause-whole : goal.returns-clause-whole
returns-clause-whole c = λ ds h there.
    text_ends c.args.self.now _ ds h there (c.end_stream-end.ensures.last c.if-end.false)
