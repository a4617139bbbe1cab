use Rattle.std.proofs.Common.{◌≡◌, ◌+◌, refl, rules, arith, w64, to_z, of_z}
use Rattle.std.proofs.lemmas.Int.{ints, to_z-of_z}
use Rattle.yaml_shape.specs.PlainData.{signed_data}
use Rattle.yaml_shape.specs.PlainShape.{integer_shape, i128}
use Rattle.yaml_types.specs.Built.{BuiltSigned}
use Rattle.yaml_types.proofs.LeafReads.{leaf_means}
use Rattle.yaml_types.proofs.impls.integers.signed_large.I128Deserialize.read_node.Goals as goal

pub returns : goal.returns
returns c =
    let z = c.in_ok-found.found in
    let wide : to_z w64 (of_z w64 z) ≡ z = search (rules, arith, ints, to_z-of_z) in
    record {
      read = leaf_means BuiltSigned c.args.tape.now c.args.place.now (c.args.place.now + 1) c.args._depth
          _ (integer_shape i128) (signed_data z) tt refl (λ w. refl) c.in_ok-found.ensures.gives refl
          (search (rules, arith, ints, to_z-of_z, wide));
    }
