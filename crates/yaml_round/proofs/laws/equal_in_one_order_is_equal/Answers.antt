-- What is equal in one order is equal.
use Rattle.yaml_round.proofs.SameOrders.{data_equal}
use Rattle.yaml_round.proofs.laws.equal_in_one_order_is_equal.Goals as goal

pub returns : goal.returns
returns c = λ a b h. data_equal a b h
