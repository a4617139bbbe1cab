-- The lowest bit is the first line feed.
use Rattle.std.proofs.Common.{arith}
use Rattle.yaml_direct.proofs.FeedParts.{first_feed, no_feeds}
use Rattle.yaml_direct.proofs.byte.count_in_line.Goals as goal

pub returns-then-feeds-eq0-clause-line : goal.returns-then-feeds-eq0-clause-line
returns-then-feeds-eq0-clause-line c =
    no_feeds c.args.text.now c.args.from 32 c.feeds_in-feeds.result c.requires c.feeds_in-feeds.ensures
    c.if-feeds-eq0.true

pub returns-else-feeds-eq0-clause-few : goal.returns-else-feeds-eq0-clause-few
returns-else-feeds-eq0-clause-few c =
    (first_feed c.args.text.now c.args.from 32 c.feeds_in-feeds.result c.requires (omega arith) c.feeds_in-feeds.ensures
    c.if-feeds-eq0.false).few

pub returns-else-feeds-eq0-clause-line : goal.returns-else-feeds-eq0-clause-line
returns-else-feeds-eq0-clause-line c =
    (first_feed c.args.text.now c.args.from 32 c.feeds_in-feeds.result c.requires (omega arith) c.feeds_in-feeds.ensures
    c.if-feeds-eq0.false).line

pub returns-else-feeds-eq0-clause-feed : goal.returns-else-feeds-eq0-clause-feed
returns-else-feeds-eq0-clause-feed c =
    (first_feed c.args.text.now c.args.from 32 c.feeds_in-feeds.result c.requires (omega arith) c.feeds_in-feeds.ensures
    c.if-feeds-eq0.false).feed
