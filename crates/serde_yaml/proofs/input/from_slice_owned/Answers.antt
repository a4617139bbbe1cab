-- What a type makes of the events of a text, without what they show of it, it makes of the text.
use Rattle.std.proofs.Common.{◌≡◌}
use Rattle.yaml_base.specs.Answer.{Answers}
use Rattle.yaml_base.specs.MarkedEvents.{plain_marked}
use Rattle.yaml_read.specs.TreeReader.{default_limits}
use Rattle.serde_yaml.specs.OwnEvents.{events_alone}
use Rattle.serde_yaml.specs.TextReads.{IsParsed}
use Rattle.serde_yaml.specs.TypedHeadline.{GivesValue}
use Rattle.serde_yaml.specs.TypedReads.{TypeGives}
use Rattle.serde_yaml.proofs.TextLaws.{answered, both}
use Rattle.serde_yaml.proofs.input.from_slice_owned.Goals as goal

pub returns : goal.returns
returns g c =
    let start = g.T.Deserialize.start in
    let built = g.T.Deserialize.built in
    let refused = g.T.Deserialize.refused in
    let p : IsParsed c.args.text.now (λ events fault. Unit {0}) = record {
      events = c.in_ok-shown.shown.items;
      fault = c.in_ok-shown.fault;
      parsed = c.in_ok-shown.ensures.parsed;
      holds = tt;
    } in
    let input = events_alone (plain_marked p.events) in
    let meaning : Answers (λ value. value) c.from_events.result
    (GivesValue default_limits start built refused input p.fault) =
    rw c.in_ok-events.ensures.alone at c.from_events.ensures.meaning in
    let given : Answers (λ value. value) c.from_events.result
    (TypeGives default_limits start built refused input p.fault) =
    rw c.in_ok-events.ensures.alone at c.from_events.ensures.given in
    record {
      given =
          answered (λ value. value) c.from_events.result
          (λ events fault given. GivesValue default_limits start built refused (events_alone events) fault given
          × TypeGives default_limits start built refused (events_alone events) fault given) p
          (both (λ value. value) c.from_events.result (GivesValue default_limits start built refused input p.fault)
          (TypeGives default_limits start built refused input p.fault) meaning given);
    }
