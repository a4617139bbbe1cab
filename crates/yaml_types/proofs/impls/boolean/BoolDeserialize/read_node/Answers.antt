use Rattle.std.proofs.Common.{◌+◌, refl}
use Rattle.yaml_shape.specs.PlainData.{bool_data}
use Rattle.yaml_shape.specs.PlainShape.{bool_shape}
use Rattle.yaml_types.specs.Built.{BuiltBool}
use Rattle.yaml_types.proofs.LeafReads.{leaf_means}
use Rattle.yaml_types.proofs.impls.boolean.BoolDeserialize.read_node.Goals as goal

pub returns : goal.returns
returns c = record {
  read = leaf_means BuiltBool c.args.tape.now c.args.place.now (c.args.place.now + 1) c.args._depth
      c.in_ok-found.found bool_shape (bool_data c.in_ok-found.found) tt refl (λ w. refl) c.in_ok-found.ensures.gives
      refl refl;
}
