-- What a text gives is never refused as no stream.
use Rattle.std.proofs.Common.{◌≡◌, ◌≢◌, ◌⊎◌, ◌∙◌, ◌∷◌, ◌<◌, ℕ, zero, suc, List, [], All, Bool, true, false, Option}
use Rattle.std.proofs.Common.{None}
use Rattle.std.proofs.Common.{Some, Result, Ok, Err, ap, arith, inl, inr, is_some, length, refl, sym, subst}
use Rattle.yaml_base.specs.Answer.{Answers, is_memory}
use Rattle.yaml_base.specs.PlainDocument.{PlainDocument}
use Rattle.yaml_base.specs.PlainFault.{PlainFault}
use Rattle.yaml_base.specs.Stream.{IsWellFormed}
use Rattle.yaml_base.specs.declared.error.Cause.{Cause}
use Rattle.yaml_base.specs.declared.error.Cause.TheVariants as cause
use Rattle.yaml_shape.specs.PlainData.{PlainData}
use Rattle.yaml_shape.specs.PlainShape.{PlainShape, shape_at}
use Rattle.yaml_types.specs.Start.{Start}
use Rattle.yaml_read.specs.Documents.{Input, documents_of}
use Rattle.yaml_read.specs.MarkedEvents.{events_in}
use Rattle.yaml_read.specs.ReadingFaults.{IsNodeFault, IsReadingFault}
use Rattle.yaml_read.specs.Reads.{DocumentGives}
use Rattle.yaml_read.specs.StreamLaw.{IsEnding}
use Rattle.yaml_read.specs.TreeReader.{PlainLimits}
use Rattle.yaml_load.proofs.StreamEndings.{all_endings}
use Rattle.yaml_load.proofs.StreamTrees.{has_some}
use Rattle.yaml_load.proofs.WrongPlaces.{wrong_not_well_formed}
use Rattle.serde_yaml.specs.StreamReads.{InputGives, StreamGives, a_stream, no_stream, some_follow, stream_of}
use Rattle.serde_yaml.specs.StreamReads.{unless_more}
use Rattle.serde_yaml.specs.TextReads.{IsOfAStream, SaysNoStream}
use Rattle.serde_yaml.specs.TypedReads.{Makes, TypeGives, no_schema, no_shape, of_shape}

one_fault : {T : Type 0} (result : Result T Cause) {e f : Cause} → result ≡ Err e → result ≡ Err f → e ≡ f
one_fault result is also = cc

node_fault_never : (fault : Cause) → IsNodeFault fault → SaysNoStream fault → ⊥
node_fault_never (cause.NotAStream place) node says = node
node_fault_never _ node says = says

reading_fault_never : (fault : Cause) → IsReadingFault fault → SaysNoStream fault → ⊥
reading_fault_never (cause.NotAStream place) reading says = reading
reading_fault_never _ reading says = says

ending_never : (fault : Cause) → IsEnding (Some fault) → SaysNoStream fault → ⊥
ending_never (cause.NotAStream place) ending says = ending
ending_never _ ending says = says

memory_never : (fault : Cause) → SaysNoStream fault → is_memory fault ≡ false
memory_never (cause.NotAStream place) says = refl
memory_never _ says = absurd says

-- a fault of a document does not say so
document_never : {limits : PlainLimits} {table : List PlainShape} {s : PlainShape} {document : PlainDocument}
    {given : Result PlainData Cause} → DocumentGives limits table s document given → (ending : Option Cause)
    → document.ending ≡ ending → IsEnding document.ending → (fault : Cause) → given ≡ Err fault → SaysNoStream fault → ⊥
document_never gives None is ends fault refused = reading_fault_never fault (gives.kind fault is refused)
document_never gives (Some cut) is ends fault refused = λ says.
    let told = gives.told cut is in
    let same : told.0 ≡ fault = one_fault _ told.1 refused in
    elim told.2 [
      | inl w ↦ ending_never cut (subst IsEnding is ends) (subst SaysNoStream (sym same ∙ w) says)
      | inr w ↦ node_fault_never told.0 w (subst SaysNoStream (sym same) says)
    ]

-- what is refused behind a first document is its fault, or that others follow
more_never : (more : Bool) (found given : Result PlainData Cause) → given ≡ unless_more more found → (fault : Cause)
    → given ≡ Err fault → (found ≡ Err fault) ⊎ (SaysNoStream fault → ⊥)
more_never true (Ok v) given is fault refused =
    inr (λ says. subst SaysNoStream (sym (one_fault given is refused)) says)
more_never true (Err e) given is fault refused = inl (sym is ∙ refused)
more_never false found given is fault refused = inl (sym is ∙ refused)

stream_never : {limits : PlainLimits} {table : List PlainShape} {s : PlainShape} (input : Input)
    (fault : Option PlainFault) {given : Result PlainData Cause}
    → StreamGives limits table s (stream_of input fault) given → (documents : List PlainDocument)
    → documents_of input fault ≡ documents → documents_of input fault ≢ []
    → All (λ d. IsEnding d.ending) (documents_of input fault) → (found : Cause) → given ≡ Err found → SaysNoStream found
    → ⊥
stream_never input fault gives [] is some ends found refused = λ says. some is
stream_never input fault gives (d ∷ others) is some ends found refused = λ says.
    let first = gives.first d others (record { fresh = refl; documents = is }) in
    elim (more_never (some_follow others) first.0 _ first.2 found refused) [
      | inl w ↦
          document_never first.1 d.ending refl
          (let all = subst (All (λ (d : PlainDocument). IsEnding d.ending)) is ends in all zero d (omega arith)) found w
          says
      | inr w ↦ w says
    ]

input_never : {limits : PlainLimits} {table : List PlainShape} {s : PlainShape} {input : Input}
    {fault : Option PlainFault} {given : Result PlainData Cause} → IsWellFormed (is_some fault) (events_in input)
    → InputGives limits table s input fault given → (found : Cause) → given ≡ Err found → SaysNoStream found → ⊥
input_never formed (no_stream place wrong) found refused says = wrong_not_well_formed _ _ place wrong formed
input_never {input = input} {fault = fault} formed (a_stream is gives) found refused says =
    stream_never input fault gives (documents_of input fault) refl (has_some input fault formed)
    (all_endings input fault) found
    refused says

made_never : {T : Type 0} (built : PlainData → T → Type 0) (message : PlainData → List ℕ → Type 0)
    (read : Result PlainData Cause) (given : Result T Cause) → Makes built message read given → (fault : Cause)
    → given ≡ Err fault → (read ≡ Err fault) ⊎ (SaysNoStream fault → ⊥)
made_never built message (Ok d) (Ok x) makes fault refused = absurd cc
made_never built message (Ok d) (Err e) makes fault refused =
    inr (λ says. subst SaysNoStream (sym (one_fault (Err e) refl refused) ∙ makes.2) says)
made_never built message (Err e) given makes fault refused = inl (ap Err (one_fault given makes refused))

typed_never : {limits : PlainLimits} {start : Start} {T : Type 0} {built : PlainData → T → Type 0}
    {message : PlainData → List ℕ → Type 0} {input : Input} {fault : Option PlainFault} {given : Result T Cause}
    → IsWellFormed (is_some fault) (events_in input) → TypeGives limits start built message input fault given
    → (found : Cause) → given ≡ Err found → SaysNoStream found → ⊥
typed_never formed (no_shape many) found refused says =
    subst SaysNoStream (sym (one_fault (Err no_schema) refl refused)) says
typed_never {built = built} {message = message} formed (of_shape {read = read} {given = given} valid at gives makes)
    found
    refused says =
    elim (made_never built message read given makes found refused) [
      | inl w ↦ input_never formed gives found w says
      | inr w ↦ w says
    ]

-- what a type makes of events that are a stream is not refused so
pub value_of_stream : (limits : PlainLimits) (start : Start) {T : Type 0} (built : PlainData → T → Type 0)
    (message : PlainData → List ℕ → Type 0) (input : Input) (fault : Option PlainFault) (result : Result T Cause)
    → IsWellFormed (is_some fault) (events_in input)
    → Answers (λ value. value) result (TypeGives limits start built message input fault) → IsOfAStream result
value_of_stream limits start built message input fault (Ok x) formed given = tt
value_of_stream limits start built message input fault (Err e) formed given =
    λ says. typed_never formed (given (memory_never e says)) e refl says

shape_there : (table : List PlainShape) (id : ℕ) → id < length table → (s : PlainShape) × (shape_at table id ≡ Some s)
shape_there [] id within = absurd (omega arith)
shape_there (s ∷ table) zero within = (s, refl)
shape_there (s ∷ table) (suc id) within = shape_there table id (omega arith)

-- nor is data of them
pub data_of_stream : {X : Type 0} (view : X → PlainData) (limits : PlainLimits) (table : List PlainShape) (id : ℕ)
    (input : Input) (fault : Option PlainFault) (result : Result X Cause) → id < length table
    → IsWellFormed (is_some fault) (events_in input)
    → ((s : PlainShape) → shape_at table id ≡ Some s → Answers view result (InputGives limits table s input fault))
    → IsOfAStream result
data_of_stream view limits table id input fault (Ok x) within formed given = tt
data_of_stream view limits table id input fault (Err e) within formed given = λ says.
    let s = shape_there table id within in
    input_never formed (given s.0 s.1 (memory_never e says)) e refl says
