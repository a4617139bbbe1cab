-- Where the direct parser may leave the text, no documents stand in it whose events these would have to be.
use Rattle.yaml_documents.proofs.TextLaws.{theirs_where_left}
use Rattle.yaml_documents.proofs.events.events_by_tokens.Goals as goal

pub returns-clause-parsed : goal.returns-clause-parsed
returns-clause-parsed c =
    let first = c.in_ok-parsed.ensures in
    let events = c.in_ok-parsed.parsed.events.items in
    let fault = c.in_ok-parsed.parsed.fault in
    record {
      taken = first.taken;
      sources = first.sources;
      plain = first.plain;
      marks = first.marks;
      places = first.places;
      allowed = first.allowed;
      refused = first.refused;
      stands = theirs_where_left c.args.text.now events fault c.requires;
    }
