-- The events of parts of nodes.
use Rattle.std.specs.Prelude.{List, ◌++◌}
use Rattle.yaml_base.specs.EmitEvents.{PlainEmit}
use Rattle.yaml_base.specs.EmitTree.{EmitNode, emit_node_events}

-- the events of a key and of its value
abbrev pub pair_events : EmitNode × EmitNode → List PlainEmit
pair_events p = emit_node_events p.0 ++ emit_node_events p.1
