-- The loader makes of one node's events the document of that node.
use Rattle.std.proofs.Common.{◌≡◌, ◌∙◌, ◌∷◌, None, arith, sym}
use Rattle.yaml_load.specs.Documents.{documents_of}
use Rattle.yaml_merge.proofs.RemadeLaws.{one_document}
use Rattle.yaml_merge.proofs.writer.written.Goals as goal

pub returns-clause-made : goal.returns-clause-made
returns-clause-made c =
    let input = c.stream.new.self.builder in
    let made = c.in_ok-stream.ensures c.new.ensures.items c.in_ok-with_capacity.ensures in
    let documents : documents_of input None ≡ c.in-Some.document ∷ c.next_document.new.self =
    sym c.in_ok-finish.ensures.documents ∙ (sym c.from-documents.ensures ∙ c.in-Some.ensures.items) in
    let whole : c.in-Some.document.ending ≡ None = sym c.in-None.ensures.shown in
    let is = one_document input made.0 c.in-Some.document c.next_document.new.self made.1 documents whole in
    (omega (arith, c.len.ensures), made.0, is.0, is.1, is.2, made.2)
