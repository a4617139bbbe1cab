-- What a call does that is asked for the next document.
use Rattle.std.specs.Prelude.{◌≡◌, ◌++◌, IfNone, Option, false, option_to_list, true}
use Rattle.yaml_base.specs.PlainDocument.{PlainDocument}
use Rattle.yaml_documents.specs.FirstDocuments.{AreFirstDocumentsOf}
use Rattle.yaml_documents.specs.PlainReader.{PlainReader}
use Rattle.yaml_documents.specs.TextDocuments.{AreDocumentsOf}

-- The document that is answered stands behind those that were handed out before. They are the first of the text's
-- documents, and all of them once the reader is over, as it is where no document is answered.
pub record HandsOut (old : PlainReader) (found : Option PlainDocument) (new : PlainReader) : Type 0 where
  pub handed : new.handed ≡ old.handed ++ option_to_list found
  pub first : new.over ≡ false → AreFirstDocumentsOf new.text new.handed
  pub all : new.over ≡ true → AreDocumentsOf new.text new.handed
  pub none : IfNone found (new.over ≡ true)
  pub failed : new.failed ≡ false

-- memory was wanting, and no document was handed out
pub record RunsOutOfMemory (old new : PlainReader) : Type 0 where
  pub handed : new.handed ≡ old.handed
  pub failed : new.failed ≡ true
