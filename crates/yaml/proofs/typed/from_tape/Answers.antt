-- The documents are those of the text of the tape.
use Rattle.yaml.proofs.CutOff.{of_all}
use Rattle.yaml.proofs.typed.from_tape.Goals as goal

pub returns : goal.returns
returns g c =
    of_all c.from_documents.result c.args.tape.text.now c.in_ok-documents.documents
    (c.in_ok-documents.ensures.own c.requires.says) c.from_documents.ensures
