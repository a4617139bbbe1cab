-- The raising of numbers.
use Rattle.std.proofs.Common.{◌+◌, ◌<◌, ap, ◌∙◌, arith}
use Rattle.yaml_shape.proofs.RaiseLaws.{one_raised, as_before}
use Rattle.yaml_shape.proofs.moved_shapes.raise_ids.Goals as goal

pub raised_id-requires-clause-small : goal.raised_id-requires-clause-small
raised_id-requires-clause-small c =
    as_before (λ id. id.0) (λ n. c.args.by + n)
    (λ id. id.0 < 4096) c.args.ids.now.items c.loop-i.ids.items c.loop-i.i c.index.result.now
    (omega arith) c.loop-i.invariant c.index.ensures c.requires.small

pub loop-i-preserved : goal.loop-i-preserved
loop-i-preserved c =
    one_raised (λ id. id.0) (λ n. c.args.by + n) c.args.ids.now.items c.loop-i.ids.items c.loop-i.i c.index.result.now
    c.raised_id.result (omega arith) c.loop-i.invariant
    (c.raised_id.ensures ∙ ap (λ id. c.args.by + id.0) c.index.ensures)
