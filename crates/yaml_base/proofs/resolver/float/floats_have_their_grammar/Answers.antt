use Rattle.yaml_base.proofs.FloatLaws.{is_float-Decides, leading_zero-Decides}
use Rattle.yaml_base.proofs.resolver.float.floats_have_their_grammar.Goals as goal

pub returns : goal.returns
returns c = record {
  float = λ text. is_float-Decides text;
  leading_zero = λ text. leading_zero-Decides text;
}
