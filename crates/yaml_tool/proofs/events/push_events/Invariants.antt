-- The lines so far stand there.
use Rattle.std.proofs.Common.{◌≡◌, ◌++◌, string_bytes, take}
use Rattle.yaml_tool.specs.ToldEvents.{event_lines}
use Rattle.yaml_tool.proofs.events.push_events.Given as goal

abbrev pub invariant-loop-marked : goal.invariant-loop-marked
invariant-loop-marked l =
    string_bytes l.out ≡ string_bytes l.fn.out ++ event_lines (take l.marked-index l.events)
