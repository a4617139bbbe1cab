-- The text and the events that were handed out stay the same.
use Rattle.std.proofs.Common.{◌≡◌}
use Rattle.yaml_parse.proofs.reading.Reading.refill.Given as goal
use Rattle.yaml_parse.specs.Handed.{handed_out}

abbrev pub invariant-steps : goal.invariant-steps
invariant-steps l =
    (l.self.parser.text.now ≡ l.fn.self.parser.text.now) × (handed_out l.self.parser ≡ handed_out l.fn.self.parser)

abbrev pub decreases-steps : goal.decreases-steps
decreases-steps l = l.self.steps
