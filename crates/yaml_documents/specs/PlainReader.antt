-- A text whose documents are handed out one by one.
use Rattle.std.specs.Prelude.{Bool, List, [], false, ℕ}
use Rattle.yaml_base.specs.PlainDocument.{PlainDocument}

-- the text, the documents that were handed out, whether these are all, and whether memory was wanting
pub record PlainReader : Type 0 where
  pub text : List ℕ
  pub handed : List PlainDocument
  pub over : Bool
  pub failed : Bool

-- nothing was read of the text
abbrev pub fresh : List ℕ → PlainReader
fresh text = record { text = text; handed = []; over = false; failed = false }
