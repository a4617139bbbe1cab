-- What a type makes of the events of a text, it makes of the text; they are a stream, and not refused as none.
use Rattle.std.proofs.Common.{refl}
use Rattle.yaml_base.specs.MarkedEvents.{plain_marked}
use Rattle.serde_yaml.specs.TypedHeadline.{GivesValue}
use Rattle.serde_yaml.specs.TypedReads.{TypeGives}
use Rattle.serde_yaml.proofs.TextFaults.{value_of_stream}
use Rattle.serde_yaml.proofs.TextLaws.{answered, both, is_stream, of_input}
use Rattle.serde_yaml.proofs.text.from_tape.Goals as goal

pub from_stream-requires : goal.from_stream-requires
from_stream-requires g c = λ k. ((refl, tt), of_input c.in_ok-stream-in-Err.ensures.documents)

pub returns-in-Err-clause-given : goal.returns-in-Err-clause-given
returns-in-Err-clause-given g c =
    let start = g.T.Deserialize.start in
    let built = g.T.Deserialize.built in
    let refused = g.T.Deserialize.refused in
    let limits = c.args.limits in
    let p = c.in_ok-stream-in-Err.ensures.documents in
    let input = plain_marked p.events in
    answered (λ value. value) c.from_stream.result
    (λ events fault given. GivesValue limits start built refused events fault given
    × TypeGives limits start built refused events fault given) p
    (both (λ value. value) c.from_stream.result (GivesValue limits start built refused input p.fault)
    (TypeGives limits start built refused input p.fault)
    (c.from_stream.ensures.meaning input p.fault p.holds (is_stream p))
    (c.from_stream.ensures.given input p.fault p.holds (is_stream p)))

pub returns-in-Err-clause-stream : goal.returns-in-Err-clause-stream
returns-in-Err-clause-stream g c =
    let p = c.in_ok-stream-in-Err.ensures.documents in
    let input = plain_marked p.events in
    value_of_stream _ _ _ _ input p.fault c.from_stream.result (is_stream p)
    (c.from_stream.ensures.given input p.fault p.holds (is_stream p))

pub from_stream_under-requires : goal.from_stream_under-requires
from_stream_under-requires g c = λ k. (
  (refl, tt),
  (of_input c.in_ok-stream.ensures.documents, (c.in-Ok.ensures.ok.table, c.in-Ok.ensures.ok.number)),
)

pub returns-clause-given : goal.returns-clause-given
returns-clause-given g c =
    let start = g.T.Deserialize.start in
    let built = g.T.Deserialize.built in
    let refused = g.T.Deserialize.refused in
    let limits = c.args.limits in
    let p = c.in_ok-stream.ensures.documents in
    let input = plain_marked p.events in
    answered (λ value. value) c.from_stream_under.result
    (λ events fault given. GivesValue limits start built refused events fault given
    × TypeGives limits start built refused events fault given) p
    (both (λ value. value) c.from_stream_under.result (GivesValue limits start built refused input p.fault)
    (TypeGives limits start built refused input p.fault)
    (c.from_stream_under.ensures.meaning input p.fault p.holds (is_stream p))
    (c.from_stream_under.ensures.given input p.fault p.holds (is_stream p)))

pub returns-clause-stream : goal.returns-clause-stream
returns-clause-stream g c =
    let p = c.in_ok-stream.ensures.documents in
    let input = plain_marked p.events in
    value_of_stream _ _ _ _ input p.fault c.from_stream_under.result (is_stream p)
    (c.from_stream_under.ensures.given input p.fault p.holds (is_stream p))
