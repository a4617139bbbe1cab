-- A written string means itself.
use Rattle.std.proofs.Common.{refl}
use Rattle.yaml_base.specs.AskedStyles.{asked_style}
use Rattle.yaml_base.specs.PlainDocEvent.{a_scalar}
use Rattle.yaml_meaning.specs.Meaning.{means_node, means_scalar}
use Rattle.yaml_round.proofs.ScalarLeaves.{any_string, text_leaf}
use Rattle.yaml_round.proofs.ValuesReturn.{any_as_is}
use Rattle.yaml_round.proofs.laws.a_written_string_means_itself.Goals as goal

pub returns-clause-text : goal.returns-clause-text
returns-clause-text c = λ table root tag text w utf8 r.
    means_node refl refl (means_scalar (text_leaf tag w text (asked_style text) utf8 r))

pub returns-clause-any : goal.returns-clause-any
returns-clause-any c = λ table root tag text w utf8 r.
    means_node refl (any_as_is tag (a_scalar w) r.same_tag) (means_scalar (any_string tag w text utf8 r))
