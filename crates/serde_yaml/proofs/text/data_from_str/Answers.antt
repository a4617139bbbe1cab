-- The bytes of a text are its text.
use Rattle.std.proofs.Common.{List, subst, ℕ}
use Rattle.yaml_base.specs.Answer.{Answers}
use Rattle.yaml_shape.specs.DataView.{data_of}
use Rattle.serde_yaml.specs.TextReads.{TextGives}
use Rattle.serde_yaml.proofs.text.data_from_str.Goals as goal

pub returns-clause-given : goal.returns-clause-given
returns-clause-given c = λ s at.
    subst (λ (text : List ℕ). Answers data_of c.data_from_slice.result
    (TextGives c.args.limits c.args.schema.now s text))
    c.as_bytes.ensures.value (c.data_from_slice.ensures.given s at)
