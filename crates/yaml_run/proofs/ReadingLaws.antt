-- What a reading found is what is told of it.
use Rattle.std.proofs.Common.{◌≡◌, ◌≢◌, ℕ, List, [], Option, Result, Ok, Err, refl, sym, subst, ◌∙◌}
use Rattle.yaml_base.specs.Answer.{Answers}
use Rattle.yaml_base.specs.PlainDocument.{PlainDocument}
use Rattle.yaml_base.specs.PlainFault.{PlainFault}
use Rattle.yaml_base.specs.declared.error.Cause.{Cause}
use Rattle.yaml_base.specs.declared.error.Cause.TheVariants.{Memory}
use Rattle.yaml_lines.specs.InputText.{MarkedEvents, IsInput, lines_of}
use Rattle.yaml_read.specs.Reads.{DocumentGives}
use Rattle.yaml_read.specs.TreeReader.{PlainLimits}
use Rattle.yaml_shape.specs.DataView.{data_of}
use Rattle.yaml_shape.specs.PlainShape.{PlainShape}
use Rattle.yaml_shape.specs.declared.data.Data.{Data}
use Rattle.serde_yaml.specs.PlainStream.{PlainStream, document_alone}
use Rattle.serde_yaml.specs.StreamReads.{InputGives, StreamGives}
use Rattle.serde_yaml.specs.TextReads.{TextGives}
use Rattle.yaml_run.specs.EventReadings.{IsReading}
use Rattle.yaml_run.specs.EventReadings.IsReading.{bad_line as lines_bad, found as lines_found}
use Rattle.yaml_run.specs.EventReadings.IsReading.{refused as lines_refused, out_of_memory as lines_no_memory}
use Rattle.yaml_run.specs.TextReadings.{IsTextReading}
use Rattle.yaml_run.specs.TextReadings.IsTextReading.{found as text_found, refused as text_refused}
use Rattle.yaml_run.specs.TextReadings.IsTextReading.{out_of_memory as text_no_memory}
use Rattle.yaml_run.specs.Told.{Tells}
use Rattle.yaml_run.specs.Turns.{IsToldOf}
use Rattle.yaml_run.specs.Turns.IsToldOf.{found as one_found, refused as one_refused, out_of_memory as one_no_memory}
use Rattle.yaml_run.specs.declared.audience.Audience.{Audience}
use Rattle.yaml_run.specs.declared.audience.Audience.TheVariants.{Programs, People}
use Rattle.yaml_run.specs.declared.status.Status.{Status}
use Rattle.yaml_run.specs.declared.status.Status.TheVariants as status

module _ (limits : PlainLimits) (table : List PlainShape) (s : PlainShape) where
  -- of lines of events
  pub tells_lines : (bytes : List ℕ) (events : MarkedEvents) (fault : Option PlainFault) (found : Result Data Cause)
      (ended : Status) (told : List ℕ) → IsInput (lines_of bytes) events fault
      → Answers data_of found (InputGives limits table s events fault) → Tells Programs found ended told
      → IsReading limits table s bytes ended told
  tells_lines bytes events fault (Ok content) ended told says gives t = lines_found _ _ _ says gives t.0 t.1
  tells_lines bytes events fault (Err Memory) ended told says gives t = lines_no_memory t.0 t.1
  tells_lines bytes events fault (Err cause) ended told says gives t = lines_refused _ _ _ says (gives refl) t.0 t.1

  -- of a text, where memory ran out: only programs are told so
  text_memory : (audience : Audience) (text : List ℕ) (ended : Status) (told : List ℕ)
      → Tells audience (Err Memory) ended told → IsTextReading audience limits table s text ended told
  text_memory Programs text ended told t = text_no_memory refl t.0 t.1
  text_memory People text ended told t = let none = t.2 in absurd cc

  -- of a text
  pub tells_text : (audience : Audience) (text : List ℕ) (found : Result Data Cause) (ended : Status) (told : List ℕ)
      → Answers data_of found (TextGives limits table s text)
      → Tells audience found ended told → IsTextReading audience limits table s text ended told
  tells_text audience text (Ok content) ended told gives t = text_found _ gives t.0 t.1
  tells_text audience text (Err Memory) ended told gives t = text_memory audience text ended told t
  tells_text audience text (Err cause) ended told gives t = text_refused _ (gives refl) t.0 t.1

  -- of a document, where memory ran out
  document_memory : (audience : Audience) (document : PlainDocument) (ended : Status) (told : List ℕ)
      → Tells audience (Err Memory) ended told → IsToldOf audience limits table s document ended told
  document_memory Programs document ended told t = one_no_memory refl t.0 t.1
  document_memory People document ended told t = let none = t.2 in absurd cc

  -- of a document
  pub tells_document : (audience : Audience) (document : PlainDocument) (found : Result Data Cause) (ended : Status)
      (told : List ℕ) → Answers data_of found (DocumentGives limits table s document) → Tells audience found ended told
      → IsToldOf audience limits table s document ended told
  tells_document audience document (Ok content) ended told gives t = one_found _ gives t.0 t.1
  tells_document audience document (Err Memory) ended told gives t = document_memory audience document ended told t
  tells_document audience document (Err cause) ended told gives t = one_refused _ (gives refl) t.0 t.1

  -- a document that is read alone gives what a document gives
  alone_found : (document : PlainDocument) (found : Result Data Cause)
      → Answers data_of found (StreamGives limits table s (document_alone document))
      → Answers data_of found (DocumentGives limits table s document)
  alone_found document (Ok content) gives =
      let g = gives.first document [] (record { fresh = refl; documents = refl }) in
      subst (DocumentGives limits table s document) (sym g.2) g.1
  alone_found document (Err cause) gives = λ known.
      let g = (gives known).first document [] (record { fresh = refl; documents = refl }) in
      subst (DocumentGives limits table s document) (sym g.2) g.1

  pub alone_gives : (document : PlainDocument) (stream : PlainStream) (found : Result Data Cause)
      → stream ≡ document_alone document → Answers data_of found (StreamGives limits table s stream)
      → Answers data_of found (DocumentGives limits table s document)
  alone_gives document stream found is gives =
      alone_found document found (subst (λ x. Answers data_of found (StreamGives limits table s x)) is gives)

  -- a reading of lines is no failed read
  pub lines-read : (bytes : List ℕ) (ended : Status) (told : List ℕ) → IsReading limits table s bytes ended told
      → ended ≢ status.ReadFailed
  lines-read bytes ended told (lines_bad n first e t) = λ f. let same = sym e ∙ f in absurd cc
  lines-read bytes ended told (lines_found events fault value says gives e t) = λ f. let same = sym e ∙ f in absurd cc
  lines-read bytes ended told (lines_refused events fault cause says gives e t) = λ f. let same = sym e ∙ f in absurd cc
  lines-read bytes ended told (lines_no_memory e t) = λ f. let same = sym e ∙ f in absurd cc

  -- nor is one of a text
  pub text-read : (audience : Audience) (text : List ℕ) (ended : Status) (told : List ℕ)
      → IsTextReading audience limits table s text ended told → ended ≢ status.ReadFailed
  text-read audience text ended told (text_found value gives e t) = λ f. let same = sym e ∙ f in absurd cc
  text-read audience text ended told (text_refused cause gives e t) = λ f. let same = sym e ∙ f in absurd cc
  text-read audience text ended told (text_no_memory to e t) = λ f. let same = sym e ∙ f in absurd cc
