-- One after the other.
use Rattle.yaml_base.specs.EmitTree.{emit_node_events}
use Rattle.yaml_write.specs.Content.{content_written}
use Rattle.yaml_write.specs.WrittenEvents.{pair_events}
use Rattle.yaml_write.specs.WrittenValue.{pair_node}
use Rattle.yaml_write.proofs.AddLaws.{adds-joined}
use Rattle.yaml_write.proofs.ValueLaws.{pair-row}
use Rattle.yaml_write.proofs.node_content.write_both.Goals as goal

pub returns : goal.returns
returns g c =
    adds-joined pair_node emit_node_events emit_node_events pair_events pair-row (content_written c.args.first)
    (content_written c.args.second)
    c.args.out.now c.write_content.new.out c.write_content-2.new.out c.write_content-2.result
    c.in_ok-write_content.ensures c.write_content-2.ensures
