-- A value that is refused has no data.
use Rattle.yaml_round.proofs.ComparedLaws.{no_data, no_data_made}
use Rattle.yaml_round.proofs.fit.value_fits.Goals as goal

pub returns-in-Err-clause-refused : goal.returns-in-Err-clause-refused
returns-in-Err-clause-refused g c =
    no_data g.T.Serialize.start (g.T.Serialize.unwritten c.args.value.now) c.in-Err.fault c.refusal.result
    c.in-Err.ensures.refused c.refusal.ensures

pub returns-in-Err-to_data-clause-refused : goal.returns-in-Err-to_data-clause-refused
returns-in-Err-to_data-clause-refused g c =
    no_data_made g.T.Serialize.start (g.T.Serialize.unwritten c.args.value.now) c.in-Err-to_data.fault
    c.in-Err-to_data.ensures.refused
