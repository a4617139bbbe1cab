-- An answer is printed.
use Rattle.yaml_run.proofs.printing.conclude.Goals as goal

pub returns-in-Ok-clause-printed : goal.returns-in-Ok-clause-printed
returns-in-Ok-clause-printed g c = rw c.in-Ok.is c.print.ensures
