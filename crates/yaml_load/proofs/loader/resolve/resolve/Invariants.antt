-- What the aliases left make of the events is what all of them make of those there were.
use Rattle.std.specs.Prelude.{◌≡◌}
use Rattle.yaml_load.proofs.Words.{length, drop, take, marked_events_of, find_in, settled}
use Rattle.yaml_load.proofs.loader.resolve.resolve.Given as goal

abbrev pub invariant-aliases : goal.invariant-aliases
invariant-aliases l =
    let old = l.fn.events.items in
    let now = l.events.items in
    record {
      all :
          settled (find_in l.named) (drop l.alias-index l.aliases) (marked_events_of (drop l.from now))
          ≡ settled (find_in l.named) l.aliases (marked_events_of (drop l.from old));
      front : take l.from now ≡ take l.from old;
      count : length now ≡ length old;
    }
