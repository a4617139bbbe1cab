-- What a reader of streams holds.
use Rattle.std.specs.Prelude.{List, [], ◌∷◌, Bool, true, false}
use Rattle.yaml_base.specs.PlainDocument.{PlainDocument}
use Rattle.serde_yaml.specs.declared.de.Source.{Source}
use Rattle.serde_yaml.specs.declared.de.Source.TheVariants.{Stream, One}

-- the documents that were not handed out
abbrev pub documents_left : Source → List PlainDocument
documents_left (Stream loader) = loader
documents_left (One document) = document ∷ []

-- whether it is one document on its own
abbrev pub is_one : Source → Bool
is_one (Stream loader) = false
is_one (One document) = true
