-- Inputs of one whole document, and one that is none.
use Rattle.std.proofs.Common.{◌≡◌, ◌∷◌, ℕ, IsOk, IsSomeAnd, List, OnOk, [], Option, None, Some, Result, Ok, Err, ap}
use Rattle.std.proofs.Common.{is_some, refl, sym}
use Rattle.std.proofs.Common.{true, ◌∙◌}
use Rattle.yaml.specs.OneDocument.{IsOneDocument}
use Rattle.yaml_base.specs.MarkedEvents.{plain_marked}
use Rattle.yaml_base.specs.PlainDocument.{PlainDocument}
use Rattle.yaml_base.specs.PlainFault.{PlainFault}
use Rattle.yaml_base.specs.declared.error.Cause.{Cause}
use Rattle.yaml_documents.specs.TextDocuments.{AreDocumentsOf, IsParsed}
use Rattle.yaml_read.specs.Documents.{Input, documents_of, failed_document}
use Rattle.yaml_scan.specs.AllowedText.{IsAllowed, IsOfReader}

-- a list of one document that nothing cut off
pub one : (input : Input) (fault : Option PlainFault) (d : PlainDocument) → documents_of input fault ≡ d ∷ []
    → d.ending ≡ None → IsOneDocument input fault
one input fault d alone whole = record { document = d; alone = alone; whole = whole }

-- an option of which something holds has a value
is_there : {X : Type 0} (P : X → Type 0) (o : Option X) → IsSomeAnd o P → is_some o ≡ true
is_there P (Some x) holds = refl
is_there P None holds = absurd holds

-- what a parser's fault alone stands for is no whole document
cut_off : (fault : Option PlainFault) (d : PlainDocument) → is_some fault ≡ true → documents_of [] fault ≡ d ∷ []
    → d.ending ≡ None → ⊥
cut_off None d some is whole = absurd cc
cut_off (Some f) d some is whole =
    let same : failed_document f ≡ d = cc in
    let bad = ap (λ (x : PlainDocument). x.ending) same ∙ whole in
    absurd cc

-- a text of one whole document is allowed
pub never_cut_off : (text : List ℕ) (documents : List PlainDocument) (d : PlainDocument) → AreDocumentsOf text documents
    → documents ≡ d ∷ [] → d.ending ≡ None → (IsAllowed text → ⊥) → ⊥
never_cut_off text documents d parsed alone whole against =
    let refused = parsed.parsed.refused against in
    cut_off parsed.fault d (is_there (λ (f : PlainFault). IsOfReader text f.kind f.offset) parsed.fault refused.1)
    (ap (λ es. documents_of (plain_marked es) parsed.fault) (sym refused.0) ∙ sym parsed.holds ∙ alone) whole

-- so it was parsed to one whole document
pub one_of_text : (text : List ℕ) (documents : List PlainDocument) (d : PlainDocument) → AreDocumentsOf text documents
    → documents ≡ d ∷ [] → d.ending ≡ None → IsParsed text IsOneDocument
one_of_text text documents d parsed alone whole = record {
  events = parsed.events;
  fault = parsed.fault;
  parsed = parsed.parsed;
  holds = one (plain_marked parsed.events) parsed.fault d (sym parsed.holds ∙ alone) whole;
}

-- a value that is read of the first document, with none behind it, is one of such a text
pub value_of_one : {X : Type 0} (result read : Result X Cause) (text : List ℕ) (documents left : List PlainDocument)
    (d : PlainDocument) → AreDocumentsOf text documents → documents ≡ d ∷ left → OnOk result (OnOk read (left ≡ []))
    → OnOk result (IsOk read) → OnOk read (d.ending ≡ None) → OnOk result (IsParsed text IsOneDocument)
value_of_one (Ok value) (Ok found) text documents left d parsed first none is_read whole =
    one_of_text text documents d parsed (first ∙ ap (λ ds. d ∷ ds) none) whole
value_of_one (Ok value) (Err cause) text documents left d parsed first none is_read whole =
    let bad = is_read in absurd cc
value_of_one (Err cause) read text documents left d parsed first none is_read whole = tt

-- a text of one whole document is never one that is not allowed
pub is_allowed : {X : Type 0} (result : Result X Cause) (text : List ℕ) → OnOk result (IsParsed text IsOneDocument)
    → OnOk result ((IsAllowed text → ⊥) → ⊥)
is_allowed (Ok value) text one = λ against.
    let refused = one.parsed.refused against in
    cut_off one.fault one.holds.document
    (is_there (λ (f : PlainFault). IsOfReader text f.kind f.offset) one.fault refused.1)
    (ap (λ es. documents_of (plain_marked es) one.fault) (sym refused.0) ∙ one.holds.alone) one.holds.whole
is_allowed (Err cause) text one = tt

-- a value that is read of the first of some documents, with none behind it, is one of each text of which they are all
pub only_one : {X : Type 0} (result read : Result X Cause) (documents left : List PlainDocument) (d : PlainDocument)
    → documents ≡ d ∷ left → OnOk result (OnOk read (left ≡ [])) → OnOk result (IsOk read)
    → OnOk read (d.ending ≡ None)
    → OnOk result ((text : List ℕ) → AreDocumentsOf text documents → IsParsed text IsOneDocument)
only_one (Ok value) read documents left d first none is_read whole =
    λ text parsed. value_of_one (Ok value) read text documents left d parsed first none is_read whole
only_one (Err cause) read documents left d first none is_read whole = tt

-- so of the text whose documents they are
pub of_all : {X : Type 0} (result : Result X Cause) (text : List ℕ) (documents : List PlainDocument)
    → AreDocumentsOf text documents
    → OnOk result ((all : List ℕ) → AreDocumentsOf all documents → IsParsed all IsOneDocument)
    → OnOk result (IsParsed text IsOneDocument)
of_all (Ok value) text documents these given = given text these
of_all (Err cause) text documents these given = tt

-- so such a text is allowed
pub allowed_of_one : {X : Type 0} (result read : Result X Cause) (text : List ℕ) (documents left : List PlainDocument)
    (d : PlainDocument) → AreDocumentsOf text documents → documents ≡ d ∷ left → OnOk result (OnOk read (left ≡ []))
    → OnOk result (IsOk read) → OnOk read (d.ending ≡ None) → OnOk result ((IsAllowed text → ⊥) → ⊥)
allowed_of_one (Ok value) (Ok found) text documents left d parsed first none is_read whole =
    never_cut_off text documents d parsed (first ∙ ap (λ ds. d ∷ ds) none) whole
allowed_of_one (Ok value) (Err cause) text documents left d parsed first none is_read whole =
    let bad = is_read in absurd cc
allowed_of_one (Err cause) read text documents left d parsed first none is_read whole = tt

-- a value of a document that is cut off as another is one of that
pub same_ending : {X : Type 0} (read : Result X Cause) (treated ending : Option Cause) → treated ≡ ending
    → OnOk read (treated ≡ None) → OnOk read (ending ≡ None)
same_ending (Ok value) treated ending same whole = sym same ∙ whole
same_ending (Err cause) treated ending same whole = tt
