-- One event more is rendered.
use Rattle.yaml_round.proofs.RenderLaws.{rendered_more}
use Rattle.yaml_round.proofs.renderer.in_quotes.Goals as goal

pub loop-asked-preserved : goal.loop-asked-preserved
loop-asked-preserved c =
    rendered_more c.args.events.now c.loop-asked.asked-index c.asked-item.result c.loop-asked.found.items
    c.push.new.self.items _ c.loop-asked-test.true c.asked-item.is c.in_ok-push.ensures.items
    c.in_ok-event.ensures.ok c.loop-asked.invariant
