-- One event more.
use Rattle.std.proofs.Common.{rules, ap, ◌∙◌}
use Rattle.yaml_base.specs.EmitEvents.{emit_of}
use Rattle.yaml_ambiguous.specs.Quoting.{unambiguous}
use Rattle.yaml_ambiguous.proofs.InPlace.{one_more}
use Rattle.yaml_ambiguous.proofs.events.quote_each.Goals as goal

pub loop-index-preserved : goal.loop-index-preserved
loop-index-preserved c =
    one_more emit_of unambiguous c.loop-index.index c.loop-index.events.items c.args.events.now.items _ c.quote.new.event
    (search rules) (c.quote.ensures ∙ ap (λ x. unambiguous (emit_of x)) c.index_mut.ensures.value) c.loop-index.invariant
