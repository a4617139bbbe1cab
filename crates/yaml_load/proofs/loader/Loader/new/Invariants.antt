-- All events are those that the builder took and those that are left.
use Rattle.std.specs.Prelude.{◌≡◌, ◌++◌}
use Rattle.yaml_load.proofs.Words.{length, into_iter_items, plain_marked}
use Rattle.yaml_load.proofs.loader.Loader.new.Given as goal

abbrev pub invariant-events : goal.invariant-events
invariant-events l = record {
  same : l.fault ≡ l.fn.fault;
  all : plain_marked l.fn.events.items ≡ l.builder ++ plain_marked (into_iter_items l.rest);
}

abbrev pub decreases-events : goal.decreases-events
decreases-events l = length (into_iter_items l.rest)
