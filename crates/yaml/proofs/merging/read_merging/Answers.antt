-- What is read of a treated document is cut off as the document is.
use Rattle.yaml.proofs.CutOff.{same_ending}
use Rattle.yaml.proofs.merging.read_merging.Goals as goal

pub returns : goal.returns
returns g c =
    same_ending c.read.result c.in_ok-treated.treated.ending c.args.document.ending c.in_ok-treated.ensures.ending
    c.read.ensures
