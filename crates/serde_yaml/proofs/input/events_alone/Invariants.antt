-- What was gone over is there, each without what it showed of the source.
use Rattle.std.proofs.Common.{◌≡◌}
use Rattle.yaml_read.specs.MarkedEvents.{plain_marked}
use Rattle.serde_yaml.specs.OwnEvents.{events_alone}
use Rattle.serde_yaml.proofs.input.events_alone.Given as goal

abbrev pub invariant-loop-event : goal.invariant-loop-event
invariant-loop-event l = plain_marked l.alone.items ≡ events_alone (plain_marked l.yielded)
