-- One event more was added, and at last all.
use Rattle.std.proofs.Common.{arith}
use Rattle.std.proofs.lemmas.List.{get_or_default}
use Rattle.yaml_c.proofs.ShowingLaws.{adds_all_events, adds_event, adds_none}
use Rattle.yaml_c.proofs.document.put_events.Goals as goal

pub loop-place-init : goal.loop-place-init
loop-place-init c = adds_none c.args.source.now _

pub loop-place-preserved : goal.loop-place-preserved
loop-place-preserved c =
    adds_event c.args.source.now c.args.at c.args.events.now c.args.ends.now c.loop-place.place
    c.index-events-place.result _ _ _ _ c.loop-place-test.true c.requires
    c.index-events-place.is
    (get_or_default c.args.ends.now c.loop-place.place _ _
    (omega (arith, c.loop-place-test.true, c.requires))) c.loop-place.invariant c.put_event.ensures

pub returns : goal.returns
returns c =
    adds_all_events c.args.source.now c.args.at c.args.events.now c.args.ends.now c.loop-place.place _ _
    c.loop-place-test.false c.requires c.loop-place.invariant
