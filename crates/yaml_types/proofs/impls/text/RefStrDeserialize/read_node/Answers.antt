use Rattle.std.proofs.Common.{◌+◌, refl, true}
use Rattle.yaml_shape.specs.PlainData.{text_data}
use Rattle.yaml_shape.specs.PlainShape.{str_shape}
use Rattle.yaml_types.specs.Built.{BuiltStr}
use Rattle.yaml_types.proofs.LeafReads.{leaf_means}
use Rattle.yaml_types.proofs.impls.text.RefStrDeserialize.read_node.Goals as goal

pub returns : goal.returns
returns c = record {
  read = leaf_means BuiltStr c.args.tape.now c.args.place.now (c.args.place.now + 1) c.args._depth
      c.in_ok-found.found str_shape (text_data true c.in_ok-found.found.now) tt refl (λ w. refl)
      c.in_ok-found.ensures.gives refl refl;
}
