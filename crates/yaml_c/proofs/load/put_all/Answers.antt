-- One document more was added.
use Rattle.yaml_c.proofs.DocumentLaws.{shows_more}
use Rattle.yaml_c.proofs.load.put_all.Goals as goal

pub loop-document-preserved-in_ok-put_one : goal.loop-document-preserved-in_ok-put_one
loop-document-preserved-in_ok-put_one c =
    shows_more c.args.source.now _ _ c.in-Some.document _ c.loop-document.invariant c.next_document.ensures.items
    c.in-Some.is c.in_ok-put_one.ensures

pub loop-document-preserved : goal.loop-document-preserved
loop-document-preserved c =
    shows_more c.args.source.now _ _ c.in-Some.document _ c.loop-document.invariant c.next_document.ensures.items
    c.in-Some.is c.in_ok-put_one.ensures
