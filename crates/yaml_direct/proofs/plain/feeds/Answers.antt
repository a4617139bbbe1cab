use Rattle.std.proofs.Common.{arith, sym, ◌∙◌}
use Rattle.yaml_direct.proofs.FeedRuns.{feeds_begin, feeds_next}
use Rattle.yaml_direct.proofs.plain.feeds.Goals as goal

pub feeds-init : goal.feeds-init
feeds-init c =
    let spaces = c.spaces_end.ensures in
    record {
      within = c.feed_at-end.ensures.within;
      few = omega arith;
      read = λ h. feeds_begin c.args.text.now c.args.from c.spaces_end.result c.feed_at-end.result h spaces.forward
          spaces.blanks spaces.over c.feed_at-end.ensures.here;
    }

pub feeds-preserved : goal.feeds-preserved
feeds-preserved c =
    let spaces = c.spaces_end-in-feeds.ensures in
    record {
      within = c.feed_at-end-in-feeds.ensures.within;
      few = omega (arith, c.feeds.invariant.few, spaces.forward, c.feed_at-end-in-feeds.ensures.forward);
      read = λ h. feeds_next c.args.text.now c.feeds.count c.args.from c.feeds.end c.spaces_end-in-feeds.result
          c.feed_at-end-in-feeds.result h (c.feeds.invariant.read h) (sym c.at.ensures.value ∙ c.feeds-test.true)
          spaces.forward spaces.blanks spaces.over c.feed_at-end-in-feeds.ensures.here;
    }
