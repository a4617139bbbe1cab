use Rattle.std.proofs.Common.{◌∙◌, ap, sym}
use Rattle.std.proofs.lemmas.Bool.{false≢true}
use Rattle.yaml_grammar.specs.Bytes.{at}
use Rattle.yaml_direct.proofs.reader.Reader.flow_no_key.Goals as goal

pub returns-clause-found : goal.returns-clause-found
returns-clause-found c = λ text of none some.
    let a = c.flow_alone.ensures.found text of none some in
    record {
      other = λ e. c.if-at-eq58.false (c.at.ensures.value ∙ ap (λ t. at t c.args.next) of.same ∙ e);
      there = c.flow_alone.ensures.there some;
      added = a.0;
      unnamed = a.1;
    }

pub returns-then-at-eq58-clause-missed : goal.returns-then-at-eq58-clause-missed
returns-then-at-eq58-clause-missed c = λ none fed. (sym c.at.ensures.value ∙ c.if-at-eq58.true, fed)

pub returns-clause-missed : goal.returns-clause-missed
returns-clause-missed c = λ none fed. absurd (false≢true (sym fed ∙ c.flow_alone.ensures.starved none))
