use Rattle.std.proofs.Common.{◌+◌, refl}
use Rattle.yaml_shape.specs.PlainShape.{str_shape}
use Rattle.yaml_types.specs.Texts.{BuiltCow}
use Rattle.yaml_types.proofs.LeafReads.{leaf_means}
use Rattle.yaml_types.proofs.impls.lent_text.CowStrDeserialize.read_node.Goals as goal

pub returns : goal.returns
returns c =
    let (d, gives, made) = c.in_ok-found.ensures.gives in
    record {
      read = leaf_means BuiltCow c.args.tape.now c.args.place.now (c.args.place.now + 1) c.args._depth
          c.in_ok-found.found str_shape d tt refl (λ w. refl) gives refl made;
    }
