-- Each value is written in its turn.
use Rattle.yaml_types.proofs.WriteLaws.{written_more}
use Rattle.yaml_types.proofs.impls.list.write_items.Goals as goal

pub loop-value-preserved : goal.loop-value-preserved
loop-value-preserved g c =
    written_more g.T.Serialize.written g.T.Serialize.kept c.args.values.now c.loop-value.items.items
    c.push.new.self.items c.loop-value.value-index c.value-item.result c.in_ok-to_data.field-0
    c.loop-value-test.true c.value-item.is c.in_ok-push.ensures.items c.in_ok-to_data.ensures.ok
    c.in_ok-to_data.ensures.kept c.loop-value.invariant
