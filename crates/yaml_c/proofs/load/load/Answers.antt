-- Where there was room for all, the rows are read as the documents.
use Rattle.yaml_c.proofs.DocumentLaws.{rows_are_read}
use Rattle.yaml_c.proofs.load.load.Goals as goal

pub returns-clause-documents : goal.returns-clause-documents
returns-clause-documents c = λ room.
    let fits = c.tell.ensures.fits room in
    record {
      documents = c.in_ok-documents.documents;
      of_text = c.in_ok-documents.ensures.documents;
      shown = rw c.tell.ensures.rows
          (rows_are_read c.args.text.now c.put_all.new.rows c.put_all.new.texts _ _ c.in_ok-documents.documents
          c.in_ok-tally.ensures fits.0 fits.1);
    }
