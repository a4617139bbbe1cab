-- Data is refused only for bytes and nested tags.
use Rattle.yaml_write.proofs.RefusalLaws.{data_refused, value_refused}
use Rattle.yaml_write.proofs.laws.data_is_refused_only_for_bytes_and_nested_tags.Goals as goal

pub returns-clause-data : goal.returns-clause-data
returns-clause-data c = λ table id tag d. data_refused table d id tag

pub returns-clause-value : goal.returns-clause-value
returns-clause-value c = λ tag t. value_refused t tag
