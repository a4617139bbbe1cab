-- The join of valid tables is valid.
use Rattle.std.proofs.Common.{arith}
use Rattle.yaml_shape.proofs.JoinCode.{appended_valid, all_small}
use Rattle.yaml_shape.proofs.join.join.Goals as goal

pub raise_all-requires-clause-small : goal.raise_all-requires-clause-small
raise_all-requires-clause-small c = all_small c.second.inside.shapes.items c.second.invariant

pub invariant_of-result : goal.invariant_of-result
invariant_of-result c =
    appended_valid c.first.inside.shapes.items c.second.inside.shapes.items c.raise_all.new.shapes.items
    c.append.new.self.items _
    c.in_ok-append.ensures.items (omega (arith, c.first.inside.shapes.ok.0)) c.raise_all.ensures c.first.invariant
    c.second.invariant (omega (arith, c.first.inside.shapes.ok.0, c.second.inside.shapes.ok.0))
