use Rattle.std.proofs.Common.{◌≡◌, ◌+◌, ◌∙◌, ap, refl, arith, w16, w64, to_z, of_z}
use Rattle.std.proofs.lemmas.Int.{ints, to_z-of_z}
use Rattle.yaml_shape.specs.PlainData.{signed_data}
use Rattle.yaml_shape.specs.PlainShape.{integer_shape, i16}
use Rattle.yaml_types.specs.Built.{BuiltSigned}
use Rattle.yaml_types.proofs.LeafReads.{inside, leaf_means}
use Rattle.yaml_types.proofs.impls.integers.signed_small.I16Deserialize.read_node.Goals as goal

pub returns : goal.returns
returns c =
    let z = c.in_ok-found.found in
    let (low, high) = inside i16 z c.in_ok-found.ensures.held in
    let wide : to_z w64 (of_z w64 z) ≡ z = to_z-of_z w64 z (omega (arith, ints, low, high)) in
    let narrow : to_z w16 (of_z w16 z) ≡ z = to_z-of_z w16 z (omega (arith, ints, low, high)) in
    record {
      read = leaf_means BuiltSigned c.args.tape.now c.args.place.now (c.args.place.now + 1) c.args._depth
          (to_z w16 (of_z w16 (to_z w64 (of_z w64 z)))) (integer_shape i16) (signed_data z) tt refl (λ w. refl)
          c.in_ok-found.ensures.gives refl (ap (λ y. to_z w16 (of_z w16 y)) wide ∙ narrow);
    }
