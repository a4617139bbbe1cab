use Rattle.std.proofs.Common.{◌≡◌, ◌^◌, ◌-◌, pos, neg_ℤ, arith}
use Rattle.std.proofs.lemmas.Int.{ints, to_z-of_z}
use Rattle.std.specs.Int.{w128}
use Rattle.yaml_base.proofs.IntegerLaws.{negative_of-sound, negative_of-complete}
use Rattle.yaml_base.specs.Integers.{IsNegativeText, negative_of, in_range}
use Rattle.yaml_base.proofs.RangeLaws.{in_range-twice, in_range-exact}
use Rattle.yaml_base.proofs.resolver.integer.parse_negative_int.Goals as goal

pub returns : goal.returns
returns c =
    let h : c.within.result ≡ in_range c.args.min c.args.max c.negative.result =
    rw (to_z-of_z w128 _ c.ranges.min, to_z-of_z w128 _ c.ranges.max) at c.within.ensures in
    let e : c.within.result ≡ in_range c.args.min c.args.max (negative_of c.args.scalar.now) =
    in_range-twice (neg_ℤ (pos (2 ^ 127))) (pos (2 ^ 127 - 1)) _ _ _ _ _
    (omega (arith, ints, c.ranges.min)) (omega (arith, ints, c.ranges.max)) c.negative.ensures h in
    record {
      value = e;
      exact = in_range-exact (IsNegativeText c.args.scalar.now) c.args.min c.args.max _ _
          (λ z. (negative_of-sound c.args.scalar.now z, negative_of-complete c.args.scalar.now z)) e;
    }
