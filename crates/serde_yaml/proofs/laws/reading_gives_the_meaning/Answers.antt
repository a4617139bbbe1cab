-- An input gives data exactly where it is one faultless document that means it.
use Rattle.serde_yaml.proofs.HeadlineLaws.{means, gives}
use Rattle.serde_yaml.proofs.laws.reading_gives_the_meaning.Goals as goal

pub returns : goal.returns
returns c = λ limits table s input fault given is. record {
  found = λ v h.
      means limits table s input given v (λ roots e. c.a_stream_is_cut_into_its_documents.ensures roots input e) fault
      (λ f. c.the_parsers_fault_comes_last.ensures.last input f) is h;
  only = λ v none reads.
      gives limits table s input given v (λ roots e. c.a_stream_is_cut_into_its_documents.ensures roots input e) fault
      is none reads;
}
