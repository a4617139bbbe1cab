-- A value's tree is one.
use Rattle.yaml_tree.specs.View.{is_value-tree_of}
use Rattle.yaml_shape.proofs.held.value_is_held.Goals as goal

pub returns : goal.returns
returns c = is_value-tree_of c.args.value.now
