-- The alias that comes next gets its target.
use Rattle.std.specs.Prelude.{◌+◌, ◌<◌}
use Rattle.yaml_load.proofs.Words.{◌∙◌, arith, length, length-set, subst, sym, drop, take-set-le, marked_events_of}
use Rattle.yaml_load.proofs.Words.{find_in, Alias}
use Rattle.yaml_load.proofs.SettledLaws.{aimed_behind, settled_more}
use Rattle.yaml_load.proofs.loader.resolve.resolve.Goals as goal

pub aliases-preserved : goal.aliases-preserved
aliases-preserved c =
    let old = c.aliases.events.items in
    let x = c.alias-item.result in
    let from = c.args.from in
    let i = c.aliases.alias-index in
    let within : from + x.1 < length old =
    let w = c.requires.within i x c.aliases-test.true in
    omega (
      arith,
      c.aliases.invariant.count,
      subst (λ (y : _). from + y.1 < length c.args.events.now.items)
          (sym c.alias-item.is) w,
    ) in
    record {
      all =
          settled_more (find_in c.args.named.now) c.args.aliases.now i x c.aliases-test.true c.alias-item.is
          c.in-Some.target
          (marked_events_of (drop from old)) _ _ c.in-Some.ensures
          (aimed_behind old from x.1 c.in-Some.target c.index_mut.result.now within c.index_mut.ensures.value)
          c.aliases.invariant.all;
      front = take-set-le from old (from + x.1) (Alias c.in-Some.target, c.index_mut.result.now.1) (omega arith)
          ∙ c.aliases.invariant.front;
      count = length-set old (from + x.1) (Alias c.in-Some.target, c.index_mut.result.now.1)
          ∙ c.aliases.invariant.count;
    }
