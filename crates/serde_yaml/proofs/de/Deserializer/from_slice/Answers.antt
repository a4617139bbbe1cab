-- The documents of a text are the stream of what a parser makes of it.
use Rattle.std.proofs.Common.{◌≡◌, List, ◌∙◌, ap, false}
use Rattle.yaml_base.specs.PlainDocument.{PlainDocument}
use Rattle.serde_yaml.specs.PlainStream.{PlainStream}
use Rattle.serde_yaml.specs.StreamReads.{stream_of}
use Rattle.serde_yaml.proofs.TextLaws.{parsed_as}
use Rattle.serde_yaml.proofs.de.Deserializer.from_slice.Goals as goal

abbrev fresh : List PlainDocument → PlainStream
fresh documents = record { documents = documents; is_document = false; iterated = false }

pub returns-clause-documents : goal.returns-clause-documents
returns-clause-documents c =
    let p = c.in_ok-load.ensures.documents in
    parsed_as (λ events fault. c.of_documents.result ≡ stream_of events fault) p
    (c.of_documents.ensures ∙ ap fresh p.holds)
