-- No events are a beginning of a stream.
use Rattle.std.proofs.Common.{◌∙◌, [], ap, refl, subst, sym}
use Rattle.yaml_base.specs.MarkedEvents.{plain_events}
use Rattle.yaml_base.specs.Stream.{IsBeginning, stream_events}
use Rattle.yaml_parse.proofs.events.Events.has_events.Goals as goal
use Rattle.yaml_parse.specs.PlainReading.{PlainReading}
use Rattle.yaml_parse.specs.Sources.{given_by}

pub returns-in-Unread-clause-begins : goal.returns-in-Unread-clause-begins
returns-in-Unread-clause-begins c =
    subst (λ (es : _). IsBeginning (plain_events es))
    (sym (ap given_by c.in-Unread.is) ∙ ap (λ (v : PlainReading). v.given) c.self.view_is)
    (stream_events [], ([], refl))
