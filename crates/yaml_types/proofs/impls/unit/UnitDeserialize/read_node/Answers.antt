use Rattle.std.proofs.Common.{◌+◌, refl, rules}
use Rattle.yaml_shape.specs.PlainData.{unit_data}
use Rattle.yaml_shape.specs.PlainShape.{unit_shape}
use Rattle.yaml_types.specs.Built.{BuiltUnit}
use Rattle.yaml_types.proofs.LeafReads.{leaf_means, unit_gives}
use Rattle.yaml_types.proofs.impls.unit.UnitDeserialize.read_node.Goals as goal

pub returns : goal.returns
returns c = record {
  read = leaf_means BuiltUnit c.args.tape.now c.args.place.now (c.args.place.now + 1) c.args._depth tt unit_shape
      unit_data tt refl (λ w. refl) (unit_gives c.args.tape.now c.args.place.now (search rules)) refl tt;
}
