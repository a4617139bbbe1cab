-- Faults of a value's calls, as faults of reading and writing.
use Rattle.yaml_base.specs.declared.error.Cause.{Cause}
use Rattle.yaml_base.specs.declared.error.Cause.TheVariants as cause
use Rattle.yaml_tree.specs.declared.fault.TreeFault.{TreeFault}
use Rattle.yaml_tree.specs.declared.fault.TreeFault.TheVariants.{Memory, EmptyTag}

-- the cause that a fault of a value's call is
abbrev pub tree_fault_cause : TreeFault → Cause
tree_fault_cause Memory = cause.Memory
tree_fault_cause EmptyTag = cause.EmptyTag
