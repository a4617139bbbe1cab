-- The first document of a stream, and whether others follow.
use Rattle.std.proofs.Common.{ap, ◌∙◌, sym}
use Rattle.serde_yaml.specs.PlainStream.{PlainStream}
use Rattle.serde_yaml.specs.StreamView.{documents_left}
use Rattle.serde_yaml.proofs.FirstDocument.{first_alone, first_of, gone_through, none_left}
use Rattle.serde_yaml.proofs.de.Deserializer.first.Goals as goal

pub returns-in-One-clause-found : goal.returns-in-One-clause-found
returns-in-One-clause-found c = first_alone c.self.view_is c.if-iterated.false (ap documents_left c.in-One.is)

pub returns-in-Some-clause-found : goal.returns-in-Some-clause-found
returns-in-Some-clause-found c =
    first_of c.next_document-in-Some.result c.next_document-in-Some.new.self c.self.view_is c.if-iterated.false
    (ap documents_left c.in-Stream.is ∙ c.in-Some.ensures.items) c.next_document-in-Some.ensures.items
    c.next_document-in-Some.ensures.none c.is_there-others.ensures
