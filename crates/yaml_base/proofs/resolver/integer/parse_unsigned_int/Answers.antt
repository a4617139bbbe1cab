use Rattle.std.proofs.Common.{◌≡◌, ◌^◌, ◌-◌, arith}
use Rattle.yaml_base.proofs.IntegerLaws.{unsigned_of-sound, unsigned_of-complete}
use Rattle.yaml_base.specs.Integers.{IsUnsignedText, unsigned_of, up_to}
use Rattle.yaml_base.proofs.RangeLaws.{up_to-twice, up_to-exact}
use Rattle.yaml_base.proofs.resolver.integer.parse_unsigned_int.Goals as goal

pub returns : goal.returns
returns c =
    let e : c.at_most.result ≡ up_to c.args.max (unsigned_of c.args.scalar.now) =
    up_to-twice (2 ^ 128 - 1) _ _ _ _ (omega (arith, c.ranges.max)) c.unsigned.ensures c.at_most.ensures in
    record {
      value = e;
      exact = up_to-exact (IsUnsignedText c.args.scalar.now) c.args.max _ _
          (λ n. (unsigned_of-sound c.args.scalar.now n, unsigned_of-complete c.args.scalar.now n)) e;
    }
