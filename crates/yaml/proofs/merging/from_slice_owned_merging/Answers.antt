-- A value is given of a text that was parsed to one document, which is cut off as the one that is read.
use Rattle.yaml.proofs.CutOff.{allowed_of_one, same_ending, value_of_one}
use Rattle.yaml.proofs.merging.from_slice_owned_merging.Goals as goal

pub returns-clause-one : goal.returns-clause-one
returns-clause-one g c =
    value_of_one c.alone.result c.read_owned.result c.args.text.now c.in_ok-documents.documents
    c.next_document.new.self c.in-Some.document c.in_ok-documents.ensures.documents c.in-Some.ensures.items
    c.alone.ensures.same c.alone.ensures.read
    (same_ending c.read_owned.result c.in_ok-treated.treated.ending c.in-Some.document.ending
    c.in_ok-treated.ensures.ending c.read_owned.ensures)

pub returns-clause-allowed : goal.returns-clause-allowed
returns-clause-allowed g c =
    allowed_of_one c.alone.result c.read_owned.result c.args.text.now c.in_ok-documents.documents
    c.next_document.new.self c.in-Some.document c.in_ok-documents.ensures.documents c.in-Some.ensures.items
    c.alone.ensures.same c.alone.ensures.read
    (same_ending c.read_owned.result c.in_ok-treated.treated.ending c.in-Some.document.ending
    c.in_ok-treated.ensures.ending c.read_owned.ensures)
