use Rattle.std.proofs.Common.{◌+◌, refl, arith, w64, to_z, of_z}
use Rattle.std.proofs.lemmas.Int.{ints, to_z-of_z}
use Rattle.yaml_shape.specs.PlainData.{signed_data}
use Rattle.yaml_shape.specs.PlainShape.{integer_shape, isize}
use Rattle.yaml_types.specs.Built.{BuiltSigned}
use Rattle.yaml_types.proofs.LeafReads.{inside, leaf_means}
use Rattle.yaml_types.proofs.impls.integers.signed_large.IsizeDeserialize.read_node.Goals as goal

pub returns : goal.returns
returns c =
    let z = c.in_ok-found.found in
    let (low, high) = inside isize z c.in_ok-found.ensures.held in
    record {
      read = leaf_means BuiltSigned c.args.tape.now c.args.place.now (c.args.place.now + 1) c.args._depth
          (to_z w64 (of_z w64 z)) (integer_shape isize) (signed_data z) tt refl (λ w. refl)
          c.in_ok-found.ensures.gives refl (to_z-of_z w64 z (omega (arith, ints, low, high)));
    }
