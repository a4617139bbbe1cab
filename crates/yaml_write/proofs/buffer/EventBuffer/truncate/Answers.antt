-- The first events of those that are cut off are the first of those that were there.
use Rattle.std.proofs.Common.{ap, sym, ◌∙◌, map, take}
use Rattle.std.proofs.lemmas.List.{take-map}
use Rattle.yaml_base.specs.EmitEvents.{emit_of}
use Rattle.yaml_write.proofs.buffer.EventBuffer.truncate.Goals as goal

pub returns : goal.returns
returns c =
    ap (map emit_of) c.truncate.ensures.items ∙ (sym (take-map emit_of c.args.held c.self.inside.events.items)
    ∙ ap (take c.args.held) c.self.view_is)
