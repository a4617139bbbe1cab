-- The events so far are rendered.
use Rattle.yaml_round.proofs.RenderLaws.{IsRenderedTo}
use Rattle.yaml_round.proofs.renderer.in_quotes.Given as goal

abbrev pub invariant-loop-asked : goal.invariant-loop-asked
invariant-loop-asked l = IsRenderedTo l.events l.asked-index l.found.items
