-- The text and the events that were handed out stay the same.
use Rattle.std.proofs.Common.{◌≡◌}
use Rattle.yaml_parse.proofs.reading.hand_over.Given as goal
use Rattle.yaml_parse.specs.Handed.{handed_out}

abbrev pub invariant-ready : goal.invariant-ready
invariant-ready l = (l.parser.text.now ≡ l.fn.parser.text.now) × (handed_out l.parser ≡ handed_out l.fn.parser)
