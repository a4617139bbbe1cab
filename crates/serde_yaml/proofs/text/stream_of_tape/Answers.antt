-- The tape says the documents of its text, so they are those of the text.
use Rattle.std.proofs.Common.{List, ap, false, ◌∙◌}
use Rattle.serde_yaml.specs.PlainStream.{PlainStream}
use Rattle.serde_yaml.proofs.text.stream_of_tape.Goals as goal
use Rattle.yaml_base.specs.PlainDocument.{PlainDocument}

abbrev of_all : List PlainDocument → PlainStream
of_all documents = record { documents = documents; is_document = false; iterated = false }

pub returns-clause-documents : goal.returns-clause-documents
returns-clause-documents c =
    let p = c.in_ok-load_tape.ensures.own c.requires.says in
    record {
      events = p.events;
      fault = p.fault;
      parsed = p.parsed;
      holds = c.of_documents.ensures ∙ ap of_all p.holds;
    }
