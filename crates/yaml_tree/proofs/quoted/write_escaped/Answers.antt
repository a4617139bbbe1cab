-- What was escaped on the way is what the value prints, escaped.
use Rattle.yaml_tree.proofs.Escapes.{written}
use Rattle.yaml_tree.proofs.quoted.write_escaped.Goals as goal

pub returns : goal.returns
returns g c = written g.W.Write.write_str_gives _ _ _ _ _ c.f-1.given.1 c.write-outcome.ensures.writes
