-- What the events give and mean, the text gives.
use Rattle.yaml_base.specs.MarkedEvents.{plain_marked}
use Rattle.yaml_shape.specs.DataView.{data_of}
use Rattle.serde_yaml.specs.Headline.{GivesMeaning}
use Rattle.serde_yaml.specs.StreamReads.{InputGives}
use Rattle.serde_yaml.proofs.FirstDocument.{answers_weaker}
use Rattle.serde_yaml.proofs.TextFaults.{data_of_stream}
use Rattle.serde_yaml.proofs.TextLaws.{answered, both, is_stream, of_input}
use Rattle.serde_yaml.proofs.TypedLaws.{whole_input}
use Rattle.serde_yaml.proofs.text.data_from_slice.Goals as goal

pub data_from_stream-requires-clause-parsed : goal.data_from_stream-requires-clause-parsed
data_from_stream-requires-clause-parsed c = of_input c.in_ok-stream.ensures.documents

pub returns-clause-given : goal.returns-clause-given
returns-clause-given c = λ s at.
    let p = c.in_ok-stream.ensures.documents in
    let input = plain_marked p.events in
    let meaning = GivesMeaning c.args.limits c.args.schema.now s in
    let gives = InputGives c.args.limits c.args.schema.now s in
    answered data_of c.data_from_stream.result
    (λ events fault given. meaning events fault given × gives events fault given) p
    (both data_of c.data_from_stream.result (meaning input p.fault) (gives input p.fault)
    (c.data_from_stream.ensures.meaning s at input p.fault p.holds (is_stream p))
    (answers_weaker data_of _ _ (whole_input input p.fault (is_stream p) p.holds)
    c.data_from_stream.result (c.data_from_stream.ensures.gives s at)))

pub returns-clause-stream : goal.returns-clause-stream
returns-clause-stream c =
    let p = c.in_ok-stream.ensures.documents in
    let input = plain_marked p.events in
    data_of_stream data_of c.args.limits c.args.schema.now c.args.id.0 input p.fault c.data_from_stream.result
    c.requires (is_stream p)
    (λ s at. answers_weaker data_of _ _ (whole_input input p.fault (is_stream p) p.holds)
    c.data_from_stream.result (c.data_from_stream.ensures.gives s at))
