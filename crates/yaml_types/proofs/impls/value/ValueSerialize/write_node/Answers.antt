-- A value's tree is one.
use Rattle.yaml_tree.specs.View.{is_value-tree_of}
use Rattle.yaml_types.proofs.impls.value.ValueSerialize.write_node.Goals as goal

pub returns-clause-held : goal.returns-clause-held
returns-clause-held g c = is_value-tree_of c.args.self.now
