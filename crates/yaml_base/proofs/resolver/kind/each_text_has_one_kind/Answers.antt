use Rattle.yaml_base.proofs.KindLaws.{kind_of-has, kind_of-only}
use Rattle.yaml_base.proofs.resolver.kind.each_text_has_one_kind.Goals as goal

pub returns : goal.returns
returns c = record { one = kind_of-has; only = kind_of-only }
