-- What a fault of a value's call prints.
use Rattle.std.specs.Prelude.{ℕ, List, codes}
use Rattle.yaml_tree.specs.declared.fault.TreeFault.{TreeFault}
use Rattle.yaml_tree.specs.declared.fault.TreeFault.TheVariants.{Memory, EmptyTag}

-- what a fault says
abbrev pub tree_fault_text : TreeFault → List ℕ
tree_fault_text Memory = codes "out of memory"
tree_fault_text EmptyTag = codes "empty YAML tag is not allowed"
