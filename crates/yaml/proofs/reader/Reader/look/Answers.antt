-- What is looked at is what the next node gives.
use Rattle.yaml.proofs.StepLaws.{gave}
use Rattle.yaml.proofs.reader.Reader.look.Goals as goal

pub returns-in-Ok : goal.returns-in-Ok
returns-in-Ok c = gave _ c.args.self.now _ _ _ _ c.node-at.ensures c.in-Ok.ensures.read
