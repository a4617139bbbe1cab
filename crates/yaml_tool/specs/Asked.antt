-- What is printed of documents that are read as values: a part, by its text, as YAML or as JSON.
use Rattle.std.specs.Prelude.{ℕ, ◌≡◌, List, [], ◌∷◌, ◌++◌, MatchBool, Ok, Err, Result, None, Some, true, false}
use Rattle.std.specs.Prelude.{Bool, IsUtf8, map, String, string_bytes}
use Rattle.std.specs.declared.alloc.Global.{Global}
use Rattle.json.specs.Json.{document, Json}
use Rattle.json.specs.Layout.{pretty}
use Rattle.json.specs.Print.{print}
use Rattle.json.specs.Token.{Token}
use Rattle.json.specs.Tree.{json_tokens}
use Rattle.yaml.specs.OneDocument.{IsOneDocument}
use Rattle.yaml.specs.WrittenDocument.{IsWrittenDocument}
use Rattle.yaml_ambiguous.specs.Quoting.{unambiguous}
use Rattle.yaml_base.specs.Answer.{is_memory}
use Rattle.yaml_base.specs.EmitEvents.{PlainEmit}
use Rattle.yaml_base.specs.PlainDocument.{PlainDocument}
use Rattle.yaml_base.specs.declared.error.Cause.{Cause}
use Rattle.yaml_documents.specs.TextDocuments.{AreDocumentsOf, IsParsed}
use Rattle.yaml_emit.specs.StreamTexts.{IsStreamText}
use Rattle.yaml_query.specs.AtPath.{found_at}
use Rattle.yaml_query.specs.JsonOf.{IsJsonOf, IsNameOf}
use Rattle.yaml_query.specs.NoJson.{is_scalar}
use Rattle.yaml_query.specs.Steps.{plain_steps}
use Rattle.yaml_value.specs.PlainValue.{PlainValue}
use Rattle.yaml_tool.specs.Characters.{bare, shown_json}
use Rattle.yaml_tool.specs.declared.question.Form.{Form}
use Rattle.yaml_tool.specs.declared.question.Form.TheVariants as form
use Rattle.yaml_tool.specs.declared.question.Question.{Question}

-- how JSON is printed: in a line, without a space, or with a line for each item and member
abbrev pub printing : (in_lines : Bool) → List Token → List ℕ
printing true = pretty
printing false = print

-- the text is the JSON of a value, so printed
pub record IsJsonText (in_lines : Bool) (v : PlainValue) (text : List ℕ) : Type 0 where
  pub json : Json
  pub of_value : IsJsonOf v json
  pub prints : text ≡ printing in_lines (json_tokens json)

-- the same without control characters, and with a line feed behind it
pub record IsJsonLine (in_lines : Bool) (v : PlainValue) (text : List ℕ) : Type 0 where
  pub json : List ℕ
  pub of_value : IsJsonText in_lines v json
  pub shown : text ≡ shown_json json ++ 10 ∷ []

-- a scalar by its text, so printed
pub record IsBareLine (v : PlainValue) (text : List ℕ) : Type 0 where
  pub name : List ℕ
  pub of_value : IsNameOf v name
  pub shown : text ≡ bare name ++ 10 ∷ []

-- YAML text of one document
abbrev pub IsYaml : List ℕ → Type 0
IsYaml text = (events : List PlainEmit) × IsWrittenDocument events × IsStreamText events text

-- a part as it is printed: as JSON, or a scalar by its text, and a collection as YAML
abbrev pub IsFormOf : Form → PlainValue → (text : List ℕ) → Type 0
IsFormOf form.Plain v text = MatchBool (is_scalar v) (IsBareLine v text) (IsYaml text)
IsFormOf form.Json v text = IsJsonLine false v text
IsFormOf form.PrettyJson v text = IsJsonLine true v text

-- what is printed of a value: the part to which the path leads
pub record IsPrinted (question : Question) (v : PlainValue) (text : List ℕ) : Type 0 where
  pub part : PlainValue
  pub found : found_at (plain_steps question.path.steps.items) v ≡ Ok part
  pub shown : IsFormOf question.form part text

-- no JSON stands for a value
abbrev pub HasNoJson : PlainValue → Type 0
HasNoJson v = (j : Json) → IsJsonOf v j → ⊥

-- what a part lacks that can't be printed: JSON; of a collection as YAML no more is said
abbrev pub HasNoForm : Form → PlainValue → Type 0
HasNoForm form.Plain v = is_scalar v ≡ false
HasNoForm _ v = HasNoJson v

-- nothing is printed of a value: the path leads nowhere, or to a part that can't be printed
pub data IsRefused (question : Question) (v : PlainValue) : Type 0 where
  nowhere : (count : ℕ) → found_at (plain_steps question.path.steps.items) v ≡ Err count → IsRefused question v
  formless : (part : PlainValue) → found_at (plain_steps question.path.steps.items) v ≡ Ok part
      → HasNoForm question.form part → IsRefused question v

-- a text and no fault, or a fault and no text; want of memory is no fault
abbrev pub Replies : Result (String Global) Cause → (text : List ℕ) → (faults : List Cause) → Type 0
Replies (Ok s) text faults = (text ≡ string_bytes s) × (faults ≡ [])
Replies (Err cause) text faults = (text ≡ []) × (faults ≡ cause ∷ []) × (is_memory cause ≡ false)

-- the text is added to what stands there, or the fault to the faults
abbrev pub Adds : Result (String Global) Cause → (old : List ℕ) → (faults : List Cause) → (new : List ℕ)
    → (more : List Cause) → Type 0
Adds (Ok s) old faults new more = (new ≡ old ++ string_bytes s) × (more ≡ faults)
Adds (Err cause) old faults new more = (new ≡ old) × (more ≡ faults ++ cause ∷ [])

-- what is answered of the one document of a text: the part of the value that was read of it, or a fault
pub data AnswersOne (question : Question) (bytes text : List ℕ) (faults : List Cause) : Type 0 where
  printed : (v : PlainValue) → IsParsed bytes IsOneDocument → IsPrinted question v text → faults ≡ []
      → AnswersOne question bytes text faults
  refused : (cause : Cause) → text ≡ [] → faults ≡ cause ∷ [] → AnswersOne question bytes text faults

-- what is answered of documents, one behind the other: of each the part of the value that was read of it, or a fault
pub data AnswersEach (question : Question) : List PlainDocument → List ℕ → List Cause → Type 0 where
  none : AnswersEach question [] [] []
  one_printed : (documents : List PlainDocument) (document : PlainDocument) (text more : List ℕ) (faults : List Cause)
      (v : PlainValue) → AnswersEach question documents text faults → document.ending ≡ None
      → IsPrinted question v more → AnswersEach question (documents ++ document ∷ []) (text ++ more) faults
  one_refused : (documents : List PlainDocument) (document : PlainDocument) (text : List ℕ) (faults : List Cause)
      (cause : Cause) → AnswersEach question documents text faults
      → AnswersEach question (documents ++ document ∷ []) text (faults ++ cause ∷ [])

-- the same of the documents of a text
abbrev pub AnswersText : Question → (bytes text : List ℕ) → (faults : List Cause) → Type 0
AnswersText question bytes text faults =
    (documents : List PlainDocument) × AreDocumentsOf bytes documents × AnswersEach question documents text faults

-- the bytes are a JSON text
abbrev pub IsJson : List ℕ → Type 0
IsJson bytes = IsUtf8 bytes × ((json : Json) × (document bytes ≡ Some json))

-- what is answered of JSON: YAML text of one document, in which no text is one that other readers of YAML take for
-- something else; or a fault
pub data AnswersJson (bytes text : List ℕ) (faults : List Cause) : Type 0 where
  as_yaml : (events : List PlainEmit) → IsJson bytes → IsWrittenDocument events
      → IsStreamText (map unambiguous events) text → faults ≡ [] → AnswersJson bytes text faults
  no_json : (cause : Cause) → text ≡ [] → faults ≡ cause ∷ [] → AnswersJson bytes text faults
