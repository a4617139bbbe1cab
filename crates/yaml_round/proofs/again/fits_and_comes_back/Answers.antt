-- A value that fits comes back, unless a message refuses it.
use Rattle.std.proofs.Common.{rules}
use Rattle.yaml_round.specs.Fits.{Fits}
use Rattle.yaml_round.proofs.ComparedLaws.{refused_back}
use Rattle.yaml_round.proofs.again.fits_and_comes_back.Goals as goal

pub returns-clause-refused : goal.returns-clause-refused
returns-clause-refused g c = λ few.
    let fits : Fits c.args.limits.nesting g.T.Serialize.start.0 g.T.Serialize.start.1
    (g.T.Serialize.written c.args.value.now) = search rules in
    refused_back g.T.Serialize.start (g.T.Serialize.unwritten c.args.value.now) c.comes_back.result
    (c.comes_back.ensures.equal few fits)
