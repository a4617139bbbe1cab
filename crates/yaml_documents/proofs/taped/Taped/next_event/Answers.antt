-- Behind the last event all of the text's were handed out.
use Rattle.std.proofs.Common.{◌≡◌, false}
use Rattle.yaml_base.specs.MarkedEvents.{plain_events, plain_marked}
use Rattle.yaml_base.specs.Stream.{IsStream}
use Rattle.yaml_checked.specs.OfText.{AreTextsOwn}
use Rattle.yaml_documents.proofs.SourceLaws.{none_both}
use Rattle.yaml_documents.proofs.taped.Taped.next_event.Goals as goal

pub returns-in-Ok-clause-over : goal.returns-in-Ok-clause-over
returns-in-Ok-clause-over c = λ of_text.
    let events = c.next_event.new.self in
    none_both c.in-Ok.found (IsStream (plain_events events.given)) (AreTextsOwn events.text (plain_marked events.given))
    (c.args.self.now.left ≡ false) c.in-Ok.ensures.none (c.in-Ok.ensures.whole of_text)
