use Rattle.std.proofs.Common.{◌+◌, refl}
use Rattle.yaml_shape.specs.PlainData.{unsigned_data}
use Rattle.yaml_shape.specs.PlainShape.{integer_shape, usize}
use Rattle.yaml_types.specs.Built.{BuiltUnsigned}
use Rattle.yaml_types.proofs.LeafReads.{leaf_means}
use Rattle.yaml_types.proofs.impls.integers.unsigned_large.UsizeDeserialize.read_node.Goals as goal

pub returns : goal.returns
returns c = record {
  read = leaf_means BuiltUnsigned c.args.tape.now c.args.place.now (c.args.place.now + 1) c.args._depth
      c.in_ok-found.found (integer_shape usize) (unsigned_data c.in_ok-found.found) tt refl (λ w. refl)
      c.in_ok-found.ensures.gives refl refl;
}
