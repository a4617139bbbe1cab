-- By what stands between two places.
use Rattle.yaml_checked.proofs.StandingDocuments.{events_ascend, events_in_place, events_within}
use Rattle.yaml_checked.proofs.laws.marks_that_stand_ascend.Goals as goal

pub returns-clause-within : goal.returns-clause-within
returns-clause-within c = events_within

pub returns-clause-ascend : goal.returns-clause-ascend
returns-clause-ascend c = events_ascend

pub returns-clause-places : goal.returns-clause-places
returns-clause-places c = events_in_place
