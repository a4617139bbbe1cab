-- The events of any documents that stand in the text are what was written, as it may come back.
use Rattle.std.proofs.Common.{subst}
use Rattle.serde_yaml.specs.TypedReads.{TypeGives}
use Rattle.yaml_round.proofs.TextsReturn.{value_comes, value_stands, value_taken}
use Rattle.yaml_round.proofs.laws.a_printed_value_reads_back.Goals as goal

pub returns-clause-stands : goal.returns-clause-stands
returns-clause-stands g c = λ x text named held fits printed. value_stands named held fits text printed

pub returns-clause-reads : goal.returns-clause-reads
returns-clause-reads g c = λ limits x text named kept held text_fits fits printed input given found gives.
    let back = value_comes named held text_fits text input printed found in
    c.a_written_value_reads_back.ensures limits x back.0 input given named kept held fits back.1 back.2 gives

pub returns-clause-taken : goal.returns-clause-taken
returns-clause-taken g c = λ limits x text input fault given named kept held text_fits fits printed takes gives.
    let back = value_taken named held text_fits text input fault printed takes in
    let gives =
    subst (λ f. TypeGives limits g.T.Deserialize.start g.T.Deserialize.built g.T.Deserialize.refused input f given)
    back.0 gives in
    c.a_written_value_reads_back.ensures limits x back.1 input given named kept held fits back.2 back.3 gives
