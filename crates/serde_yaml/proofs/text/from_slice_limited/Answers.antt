-- What a type makes of the events of a text, it makes of the text; they are a stream, and not refused as none.
use Rattle.std.proofs.Common.{◌≡◌, refl, rules, subst}
use Rattle.yaml_base.specs.Answer.{Answers}
use Rattle.yaml_base.specs.MarkedEvents.{plain_marked}
use Rattle.serde_yaml.specs.TextReads.{IsParsed}
use Rattle.serde_yaml.specs.TypedHeadline.{GivesValue}
use Rattle.serde_yaml.specs.TypedReads.{TypeGives}
use Rattle.serde_yaml.proofs.TextFaults.{value_of_stream}
use Rattle.serde_yaml.proofs.TextLaws.{answered, both, is_stream, of_input}
use Rattle.serde_yaml.proofs.text.from_slice_limited.Goals as goal

pub from_stream-requires : goal.from_stream-requires
from_stream-requires g c = λ k. ((refl, tt), of_input c.in_ok-stream-in-None.ensures.documents)

pub returns-in-Some-clause-given : goal.returns-in-Some-clause-given
returns-in-Some-clause-given g c =
    let same : c.in-Some.tape.text.now ≡ c.args.text.now = search rules in
    subst (λ text. Answers (λ value. value) c.from_tape.result (λ given. IsParsed text (λ events fault.
    GivesValue c.args.limits g.T.Deserialize.start g.T.Deserialize.built g.T.Deserialize.refused events fault given
    × TypeGives c.args.limits g.T.Deserialize.start g.T.Deserialize.built g.T.Deserialize.refused events fault given)))
    same c.from_tape.ensures.given

pub returns-in_ok-stream-in-None-clause-given : goal.returns-in_ok-stream-in-None-clause-given
returns-in_ok-stream-in-None-clause-given g c =
    let start = g.T.Deserialize.start in
    let built = g.T.Deserialize.built in
    let refused = g.T.Deserialize.refused in
    let limits = c.args.limits in
    let p = c.in_ok-stream-in-None.ensures.documents in
    let input = plain_marked p.events in
    answered (λ value. value) c.from_stream.result
    (λ events fault given. GivesValue limits start built refused events fault given
    × TypeGives limits start built refused events fault given) p
    (both (λ value. value) c.from_stream.result (GivesValue limits start built refused input p.fault)
    (TypeGives limits start built refused input p.fault)
    (c.from_stream.ensures.meaning input p.fault p.holds (is_stream p))
    (c.from_stream.ensures.given input p.fault p.holds (is_stream p)))

pub returns-in_ok-stream-in-None-clause-stream : goal.returns-in_ok-stream-in-None-clause-stream
returns-in_ok-stream-in-None-clause-stream g c =
    let p = c.in_ok-stream-in-None.ensures.documents in
    let input = plain_marked p.events in
    value_of_stream _ _ _ _ input p.fault c.from_stream.result (is_stream p)
    (c.from_stream.ensures.given input p.fault p.holds (is_stream p))
