-- Event by event.
use Rattle.yaml_ambiguous.proofs.Quotes.{come_back, is_unambiguous}
use Rattle.yaml_ambiguous.proofs.events.quoted_events_are_rendered_so.Goals as goal

pub returns-clause-quoted : goal.returns-clause-quoted
returns-clause-quoted c = is_unambiguous

pub returns-clause-rendered : goal.returns-clause-rendered
returns-clause-rendered c = come_back
