-- What was read up to here, or that nothing can be read.
use Rattle.std.proofs.Common.{◌-◌}
use Rattle.yaml_direct.specs.Quoted.{ClosesInLine}
use Rattle.yaml_direct.proofs.Unquoting.{Reading}
use Rattle.yaml_direct.proofs.quote.unquoted.Given as goal

abbrev pub invariant-runs : goal.invariant-runs
invariant-runs l = ClosesInLine l.text l.quote l.from l.end → Reading l.text l.quote l.from l.end l.place l.value.items

abbrev pub decreases-runs : goal.decreases-runs
decreases-runs l = l.end - l.place
