use Rattle.yaml_base.proofs.IntegerLaws.{integer_of-sound, integer_of-complete, unsigned_of-sound, unsigned_of-complete}
use Rattle.yaml_base.proofs.IntegerLaws.{negative_of-sound, negative_of-complete}
use Rattle.yaml_base.proofs.resolver.integer.integers_have_their_grammar.Goals as goal

pub returns : goal.returns
returns c = record {
  any_sign = λ text z. (integer_of-sound text z, integer_of-complete text z);
  no_minus = λ text n. (unsigned_of-sound text n, unsigned_of-complete text n);
  decimal_or_minus = λ text z. (negative_of-sound text z, negative_of-complete text z);
}
