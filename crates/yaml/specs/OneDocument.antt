-- An input of one document.
use Rattle.std.specs.Prelude.{◌≡◌, [], ◌∷◌, Option, None}
use Rattle.yaml_base.specs.PlainDocument.{PlainDocument}
use Rattle.yaml_base.specs.PlainFault.{PlainFault}
use Rattle.yaml_read.specs.Documents.{Input, documents_of}

-- there is one document, and nothing cut it off
pub record IsOneDocument (input : Input) (fault : Option PlainFault) : Type 0 where
  pub document : PlainDocument
  pub alone : documents_of input fault ≡ document ∷ []
  pub whole : document.ending ≡ None
