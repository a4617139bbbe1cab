-- What is answered of documents, from what was read and printed of them.
use Rattle.std.specs.Prelude.{IfErr, IfOk, IsOk, OnOk, Ok, Err, None, Some}
use Rattle.std.proofs.Common.{◌≡◌, ℕ, List, [], ◌∷◌, ◌++◌, Result, String, string_bytes, append_assoc, append-nil}
use Rattle.std.proofs.Common.{◌<◌, ap, arith, false, length, map, refl, subst, sym, true, ◌∙◌}
use Rattle.std.specs.declared.alloc.Global.{Global}
use Rattle.yaml.specs.NextDocument.{ReadsNext}
use Rattle.yaml.specs.OneDocument.{IsOneDocument}
use Rattle.yaml.specs.WrittenDocument.{IsWrittenDocument}
use Rattle.yaml_ambiguous.specs.Quoting.{unambiguous}
use Rattle.yaml_base.specs.Answer.{is_memory}
use Rattle.yaml_base.specs.EmitEvents.{PlainEmit}
use Rattle.yaml_base.specs.PlainDocument.{PlainDocument}
use Rattle.yaml_base.specs.declared.error.Cause.{Cause}
use Rattle.yaml_documents.specs.TextDocuments.{IsParsed}
use Rattle.yaml_emit.specs.StreamTexts.{IsStreamText}
use Rattle.yaml_value.specs.PlainValue.{PlainValue}
use Rattle.yaml_value.specs.PlainValue as value
use Rattle.yaml_value.specs.declared.value.Value.{Value}
use Rattle.yaml_query.specs.AtPath.{found_at}
use Rattle.yaml_query.specs.JsonOf.{IsNameOf}
use Rattle.yaml_query.specs.NoJson.{is_scalar}
use Rattle.yaml_query.specs.Steps.{plain_steps}
use Rattle.yaml_tool.specs.Asked.{Adds, AnswersEach, AnswersJson, AnswersOne, HasNoForm, IsFormOf, IsPrinted}
use Rattle.yaml_tool.specs.Asked.{IsJson, IsRefused, Replies}
use Rattle.yaml_tool.specs.Asked.AnswersJson.{as_yaml, no_json}
use Rattle.yaml_tool.specs.Asked.IsRefused.{formless}
use Rattle.yaml_tool.specs.Characters.{bare}
use Rattle.yaml_tool.specs.Asked.AnswersEach.{none, one_printed, one_refused}
use Rattle.yaml_tool.specs.Asked.AnswersOne.{printed, refused}
use Rattle.yaml_tool.specs.declared.question.Form.TheVariants as form
use Rattle.yaml_tool.specs.declared.question.Question.{Question}

-- what holds of an answer by two facts
pub both : {A E : Type 0} (r : Result A E) (P Q R : A → Type 0) → ((x : A) → P x → Q x → R x) → IfOk r P → IfOk r Q
    → IfOk r R
both (Ok x) P Q R f p q = f x p q
both (Err e) P Q R f p q = tt

-- what holds of an answer by one
pub weaker : {A E : Type 0} (r : Result A E) {P Q : A → Type 0} → IfOk r P → ((x : A) → P x → Q x) → IfOk r Q
weaker (Ok x) p f = f x p
weaker (Err e) p f = tt

-- what has a name is a scalar
named-scalar : (v : PlainValue) (name : List ℕ) → IsNameOf v name → is_scalar v ≡ true
named-scalar value.null name named = refl
named-scalar (value.boolean b) name named = refl
named-scalar (value.integer z) name named = refl
named-scalar (value.float x) name named = refl
named-scalar (value.text t) name named = refl
named-scalar (value.sequence vs) name named = absurd named
named-scalar (value.mapping ps) name named = absurd named
named-scalar (value.tagged t v) name named = named-scalar v name named

-- a scalar by its text
pub bare-form : (v : PlainValue) (name text : List ℕ) → IsNameOf v name → text ≡ bare name ++ 10 ∷ []
    → IsFormOf form.Plain v text
bare-form v name text named shown =
    rw (named-scalar v name named) (record { name = name; of_value = named; shown = shown })

-- a part that is printed as it is asked for is printed of the value
pub printed-part : (question : Question) (v part : PlainValue) (given : Result (String Global) Cause)
    → found_at (plain_steps question.path.steps.items) v ≡ Ok part
    → IfOk given (λ s. IsFormOf question.form part (string_bytes s))
    → IfOk given (λ s. IsPrinted question v (string_bytes s))
printed-part question v part (Ok s) found shown = record { part = part; found = found; shown = shown }
printed-part question v part (Err cause) found shown = tt

-- and of one that can't be, nothing is
pub refused-part : (question : Question) (v part : PlainValue) (given : Result (String Global) Cause)
    → found_at (plain_steps question.path.steps.items) v ≡ Ok part
    → IfErr given (λ cause. is_memory cause ≡ false → HasNoForm question.form part)
    → IfErr given (λ cause. is_memory cause ≡ false → IsRefused question v)
refused-part question v part (Ok s) found without = tt
refused-part question v part (Err cause) found without = λ other. formless part found (without other)

-- what is printed of a text's one document, or the fault in its place, is its answer
pub answers_one : (question : Question) (bytes text : List ℕ) (faults : List Cause)
    (given : Result (String Global) Cause)
    → IfOk given (λ s. IsParsed bytes IsOneDocument × ((v : PlainValue) × IsPrinted question v (string_bytes s)))
    → Replies given text faults → AnswersOne question bytes text faults
answers_one question bytes text faults (Ok s) is reply =
    printed is.1.0 is.0 (subst (IsPrinted question is.1.0) (sym reply.0) is.1.1) reply.1
answers_one question bytes text faults (Err cause) is reply = refused cause reply.0 reply.1

-- the same of JSON
pub answers_json : (bytes text : List ℕ) (faults : List Cause) (given : Result (String Global) Cause)
    → OnOk given (IsJson bytes)
    → IfOk given (λ s. (events : List PlainEmit) × IsWrittenDocument events
    × IsStreamText (map unambiguous events) (string_bytes s))
    → Replies given text faults → AnswersJson bytes text faults
answers_json bytes text faults (Ok s) json (events, written, shown) reply =
    as_yaml events json written (subst (IsStreamText (map unambiguous events)) (sym reply.0) shown) reply.1
answers_json bytes text faults (Err cause) json is reply = no_json cause reply.0 reply.1

-- Some documents are answered, and the others are left.
abbrev pub Asking : Question → (all left : List PlainDocument) → (text : List ℕ) → (faults : List Cause) → Type 0
Asking question all left text faults =
    (done : List PlainDocument) × (all ≡ done ++ left) × AnswersEach question done text faults

-- at first none is
pub asking-begins : (question : Question) (all : List PlainDocument) (text : List ℕ) (faults : List Cause)
    → text ≡ [] → faults ≡ [] → Asking question all all text faults
asking-begins question all text faults no_text no_faults = (
  [],
  refl,
  subst (λ t. AnswersEach question [] t faults) (sym no_text)
      (subst (AnswersEach question [] []) (sym no_faults) none),
)

one-more : (all done old new : List PlainDocument) (document : PlainDocument) → all ≡ done ++ old
    → old ≡ document ∷ new → all ≡ (done ++ document ∷ []) ++ new
one-more all done old new document e first =
    e ∙ ap (λ d. done ++ d) first ∙ sym (append_assoc done (document ∷ []) new)

-- with one that was read, or not, one more is
pub asking-next : (question : Question) (all old new : List PlainDocument) (text more : List ℕ)
    (faults others : List Cause) (read : Result Value Cause) (given : Result (String Global) Cause)
    → ReadsNext old read new
    → IfOk given (λ s. IsOk read × ((v : PlainValue) × IsPrinted question v (string_bytes s)))
    → Adds given text faults more others → Asking question all old text faults → Asking question all new more others
asking-next question all old new text more faults others (Ok x) (Ok s) next is adds (done, e, so) = (
  done ++ next.document ∷ [],
  one-more all done old new next.document e next.first,
  subst (λ t. AnswersEach question (done ++ next.document ∷ []) t others) (sym adds.0)
      (subst (AnswersEach question (done ++ next.document ∷ []) (text ++ string_bytes s)) (sym adds.1)
      (one_printed done next.document text (string_bytes s) faults is.1.0 so next.whole is.1.1)),
)
asking-next question all old new text more faults others (Err fault) (Ok s) next is adds asking =
    let read_so = is.0 in absurd cc
asking-next question all old new text more faults others read (Err cause) next is adds (done, e, so) = (
  done ++ next.document ∷ [],
  one-more all done old new next.document e next.first,
  subst (λ t. AnswersEach question (done ++ next.document ∷ []) t others) (sym adds.0)
      (subst (AnswersEach question (done ++ next.document ∷ []) text) (sym adds.1)
      (one_refused done next.document text faults cause so)),
)

-- where none is left, all are
pub asking-ends : (question : Question) (all left : List PlainDocument) (text : List ℕ) (faults : List Cause)
    → left ≡ [] → Asking question all left text faults → AnswersEach question all text faults
asking-ends question all left text faults empty (done, e, so) =
    subst (λ ds. AnswersEach question ds text faults)
    (sym (e ∙ ap (λ d. done ++ d) empty ∙ append-nil done)) so

-- with each one fewer is left
pub fewer : (old new : List PlainDocument) (document : PlainDocument) → old ≡ document ∷ new → length new < length old
fewer old new document first = subst (λ ds. length new < length ds) (sym first) (omega arith)
