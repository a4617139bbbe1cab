-- The text stays the same.
use Rattle.yaml_parse.specs.Kept.{Keeps}
use Rattle.yaml_parse.proofs.machine.Machine.feed.Given as goal

abbrev pub invariant-steps : goal.invariant-steps
invariant-steps l = Keeps l.fn.self.stream l.self.stream
