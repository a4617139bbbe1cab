-- The search by halves ends where the alias belongs among the anchors.
use Rattle.std.specs.Ordering.{is_lt}
use Rattle.std.proofs.lemmas.Fn.{always_returns_same}
use Rattle.yaml_load.proofs.Words.{rules, of_calls}
use Rattle.yaml_load.specs.inner.AnchorOrder.{anchor_order}
use Rattle.yaml_load.proofs.AnchorOrders.{parted}
use Rattle.yaml_load.proofs.loader.resolve.place_of.Goals as goal

pub returns-clause-place : goal.returns-clause-place
returns-clause-place c =
    c.partition_point.ensures.partitioned (λ x. is_lt (anchor_order x c.args.alias.now))
    (always_returns_same _ _ _ (λ a r f k. search (rules, of_calls)))
    (parted c.args.named.now c.args.alias.now c.requires)
