-- One document of a text after another.
use Rattle.std.specs.Prelude.{◌≡◌, ◌∷◌, [], List, Option, Result, None, Some, Err, OnOk, MatchOption, true}
use Rattle.yaml_base.specs.Answer.{is_memory}
use Rattle.yaml_base.specs.PlainDocument.{PlainDocument}
use Rattle.yaml_base.specs.declared.error.Cause.{Cause}
use Rattle.yaml_documents.specs.HandingOut.{HandsOut, RunsOutOfMemory}
use Rattle.yaml_documents.specs.PlainReader.{PlainReader}

-- The first document that was left was read, and those behind it are left. A value was read of a document that nothing
-- cut off.
pub record ReadsNext {T : Type 0} (old : List PlainDocument) (read : Result T Cause)
    (new : List PlainDocument) : Type 0 where
  pub document : PlainDocument
  pub first : old ≡ document ∷ new
  pub whole : OnOk read (document.ending ≡ None)

-- What was read of the next document was given, or none where none was left.
abbrev pub GivesNext : {T : Type 0} → List PlainDocument → Option (Result T Cause) → List PlainDocument → Type 0
GivesNext old given new = MatchOption given ((old ≡ []) × (new ≡ [])) (λ read. ReadsNext old read new)

-- One document more was read, and a value of one that nothing cut off. Or memory was wanting, and none was.
pub data ReadsFurther {T : Type 0} (old new : PlainReader) (read : Result T Cause) : Type 0 where
  of_next : (document : PlainDocument) → HandsOut old (Some document) new → OnOk read (document.ending ≡ None)
      → ReadsFurther old new read
  of_memory : (cause : Cause) → read ≡ Err cause → is_memory cause ≡ true → RunsOutOfMemory old new
      → ReadsFurther old new read
