-- The greatest power of 2 that is no more than a number is no more than it.
use Rattle.yaml_tree.proofs.Chains.{power-le}
use Rattle.yaml_value.proofs.index.chain_count.Goals as goal

pub returns-else-entries-lt-FEW-clause-within : goal.returns-else-entries-lt-FEW-clause-within
returns-else-entries-lt-FEW-clause-within c =
    power-le c.args.entries c.if-entries-lt-FEW.false c.ranges.entries.fits
