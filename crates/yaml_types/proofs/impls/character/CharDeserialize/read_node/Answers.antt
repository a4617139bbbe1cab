use Rattle.std.proofs.Common.{◌+◌, refl}
use Rattle.yaml_shape.specs.PlainData.{char_data}
use Rattle.yaml_shape.specs.PlainShape.{char_shape}
use Rattle.yaml_types.specs.Built.{BuiltChar}
use Rattle.yaml_types.proofs.LeafReads.{leaf_means}
use Rattle.yaml_types.proofs.impls.character.CharDeserialize.read_node.Goals as goal

pub returns : goal.returns
returns c = record {
  read = leaf_means BuiltChar c.args.tape.now c.args.place.now (c.args.place.now + 1) c.args._depth
      c.in_ok-found.found char_shape (char_data c.in_ok-found.found) tt refl (λ w. refl) c.in_ok-found.ensures.gives
      refl refl;
}
