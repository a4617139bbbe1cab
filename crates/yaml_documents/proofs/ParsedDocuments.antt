-- A tape that stands in its text and holds one document is what the text was parsed to.
use Rattle.std.proofs.Common.{◌≡◌, ◌∙◌, List, None, ap, refl, subst, sym}
use Rattle.yaml_base.specs.DocTree.{DocNode}
use Rattle.yaml_base.specs.MarkedEvents.{events_in, plain_events, plain_marked}
use Rattle.yaml_base.specs.Stream.{IsStream}
use Rattle.yaml_base.specs.Position.{Position}
use Rattle.yaml_base.specs.declared.event.Event.{Event}
use Rattle.yaml_checked.specs.OfText.{SaysText}
use Rattle.yaml_checked.specs.StandsInText.{StandsInText}
use Rattle.yaml_documents.proofs.OneDocument.{only_stream, only_tree}
use Rattle.yaml_documents.proofs.TextLaws.{parsed_so, read_whole, same_events}
use Rattle.yaml_documents.specs.OnlyDocument.{HasOneDocument, IsOnlyDocument}
use Rattle.yaml_documents.specs.TextDocuments.{IsParsed}
use Rattle.yaml_documents.specs.TextEvents.{AreTheirs}
use Rattle.yaml_grammar.specs.Nodes.{events_of}
use Rattle.yaml_tape.specs.Pushes.{marked_on}
use Rattle.yaml_scan.specs.AllowedText.{IsAllowed}
use Rattle.yaml_tape.specs.declared.tape.Tape.{Tape}

-- what stands on a tape are the events of the documents that stand in its text, if the tape says so
said_theirs : (t : Tape) (events : List (Event × Position)) → SaysText t → plain_marked events ≡ marked_on t
    → AreTheirs t.text.now events None
said_theirs t events says same ds stand short =
    let said = says stand.characters in
    (refl, same ∙ said.all ∙ ap (events_of t.text.now) (sym (said.only ds stand)))

pub one_document_parsed : (t : Tape) (root : DocNode) → StandsInText t → SaysText t → IsAllowed t.text.now
    → IsOnlyDocument t root → IsParsed t.text.now (HasOneDocument root)
one_document_parsed t root stands says allowed only =
    let o = only_tree t root only in
    let events = stands.events in
    let whole : IsStream (plain_events events) =
    subst IsStream (sym (same_events events ∙ ap events_in stands.same)) (only_stream t root only) in
    record {
      events = events;
      fault = None;
      parsed =
          parsed_so (read_whole refl allowed whole stands.sources stands.plain stands.marks stands.places)
          (said_theirs t events says stands.same);
      holds = subst (λ input. HasOneDocument root input None) (sym stands.same)
          (refl, (o.document, (o.only, o.tree)));
    }
