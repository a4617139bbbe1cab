-- By what stands between two places.
use Rattle.yaml_checked.proofs.StandingDocuments.{events_say, events_shown}
use Rattle.yaml_checked.proofs.laws.scalars_that_stand_say_their_source.Goals as goal

pub returns-clause-shown : goal.returns-clause-shown
returns-clause-shown c = events_shown

pub returns-clause-plain : goal.returns-clause-plain
returns-clause-plain c = events_say
