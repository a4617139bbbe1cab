-- The laws are lemmas.
use Rattle.yaml_load.proofs.CutLaws.{fault_last, no_fault}
use Rattle.yaml_load.proofs.stream_law.the_parsers_fault_comes_last.Goals as goal

pub returns-clause-last : goal.returns-clause-last
returns-clause-last c = fault_last

pub returns-clause-none : goal.returns-clause-none
returns-clause-none c = no_fault
