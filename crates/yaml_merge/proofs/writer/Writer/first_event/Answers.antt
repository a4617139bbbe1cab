-- A scalar is a node, and a collection begins one.
use Rattle.std.proofs.Common.{◌≡◌, Some, reverse, sym}
use Rattle.std.proofs.lemmas.Result.{IfOk-weaker}
use Rattle.yaml_base.specs.DocEventView.{doc_scalar_of, marked_events_of}
use Rattle.yaml_base.specs.PlainDocEvent.{a_scalar, mapping_begins, sequence_begins}
use Rattle.yaml_base.specs.PlainEvent.{event_of}
use Rattle.yaml_merge.specs.Writing.{event_at}
use Rattle.yaml_merge.proofs.FrameLaws.{mapping_goes, sequence_goes}
use Rattle.yaml_merge.proofs.WritingLaws.{scalar_begins}
use Rattle.yaml_merge.proofs.writer.Writer.first_event.Goals as goal

pub returns-in-Some-Scalar-clause-begins : goal.returns-in-Some-Scalar-clause-begins
returns-in-Some-Scalar-clause-begins c =
    let old = c.args.self.now in
    let s = doc_scalar_of c.in-Some-Scalar.scalar in
    let at : event_at (marked_events_of old.nodes.events.now) c.args.place ≡ Some (a_scalar s) =
    sym (rw c.in-Some-Scalar.field-0-is at c.in-Some-Scalar.ensures) in
    IfOk-weaker c.scalar.result _ _ (λ event is.
    scalar_begins (marked_events_of old.nodes.events.now) old.nodes.ends.now (reverse old.frames.items)
    (event_of event) c.args.place s at is) c.scalar.ensures

pub returns-in-Some-SequenceStart-clause-begins : goal.returns-in-Some-SequenceStart-clause-begins
returns-in-Some-SequenceStart-clause-begins c =
    let old = c.args.self.now in
    let tag = c.in-Some-SequenceStart.start.tag in
    let at : event_at (marked_events_of old.nodes.events.now) c.args.place ≡ Some (sequence_begins tag) =
    sym (rw c.in-Some-SequenceStart.field-0-is at c.in-Some-SequenceStart.ensures) in
    IfOk-weaker c.sequence.result _ _ (λ event is.
    sequence_goes (marked_events_of old.nodes.events.now) old.nodes.ends.now old.frames.items
    c.sequence.new.self.frames.items (event_of event) c.args.place tag at is.0 is.1) c.sequence.ensures.begun

pub returns-in-Some-MappingStart-clause-begins : goal.returns-in-Some-MappingStart-clause-begins
returns-in-Some-MappingStart-clause-begins c =
    let old = c.args.self.now in
    let tag = c.in-Some-MappingStart.start.tag in
    let at : event_at (marked_events_of old.nodes.events.now) c.args.place ≡ Some (mapping_begins tag) =
    sym (rw c.in-Some-MappingStart.field-0-is at c.in-Some-MappingStart.ensures) in
    IfOk-weaker c.mapping.result _ _ (λ event is.
    mapping_goes (marked_events_of old.nodes.events.now) old.nodes.ends.now old.frames.items
    c.mapping.new.self.frames.items (event_of event) c.args.place tag at is.0 is.1) c.mapping.ensures.begun
