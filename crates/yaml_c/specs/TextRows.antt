-- What rows show of a text.
use Rattle.std.specs.Prelude.{◌≡◌, ℕ, List}
use Rattle.yaml_base.specs.PlainDocument.{PlainDocument}
use Rattle.yaml_documents.specs.TextDocuments.{AreDocumentsOf}
use Rattle.yaml_c.specs.RowDocuments.{documents_of_rows, shown_documents}
use Rattle.yaml_c.specs.declared.rows.YamlRow.{YamlRow}

-- the rows show the documents of the text, as far as rows can show documents
pub record ShowDocumentsOf (text : List ℕ) (rows : List YamlRow) (texts : List ℕ) : Type 0 where
  pub documents : List PlainDocument
  pub of_text : AreDocumentsOf text documents
  pub shown : documents_of_rows rows texts text ≡ shown_documents 0 documents
