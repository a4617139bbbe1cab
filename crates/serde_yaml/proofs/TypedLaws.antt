-- What is read and written under the shape of a type.
use Rattle.std.proofs.Common.{◌≡◌, ◌⊎◌, ◌<◌, ◌++◌, ℕ, List, [], ◌∷◌, length, Option, Some, None, Bool, true, false}
use Rattle.std.proofs.Common.{Result, Ok, Err, inl, inr, arith, append_assoc}
use Rattle.std.proofs.Common.{get_or, is_some, refl, sym, ap, subst, ◌∙◌}
use Rattle.std.proofs.lemmas.List.{append-nil}
use Rattle.std.specs.Prelude.{IfOk, string_bytes}
use Rattle.std.proofs.lemmas.Option.{slice_get-get_or}
use Rattle.yaml_base.specs.Answer.{Answers, is_memory}
use Rattle.yaml_base.specs.EmitEvents.{PlainEmit, emit_stream_start, emit_stream_end, emit_document_start}
use Rattle.yaml_base.specs.EmitEvents.{emit_document_end}
use Rattle.yaml_base.specs.EmitTree.{EmitNode, emit_node_events, emit_document_events}
use Rattle.yaml_base.specs.PlainEvent.{event_of}
use Rattle.yaml_base.specs.PlainFault.{PlainFault}
use Rattle.yaml_base.specs.Position.{Position}
use Rattle.yaml_base.specs.Stream.{IsWellFormed}
use Rattle.yaml_base.specs.declared.event.Event.{Event}
use Rattle.yaml_base.specs.declared.error.Cause.{Cause}
use Rattle.yaml_base.specs.declared.error.Cause.TheVariants as cause
use Rattle.yaml_base.specs.declared.error.Cause.TheVariants.{NotAStream}
use Rattle.yaml_base.specs.DocTree.{DocNode, nothing}
use Rattle.yaml_shape.specs.DataView.{data_of}
use Rattle.yaml_shape.specs.HasShape.{HasShape}
use Rattle.yaml_shape.specs.Join.{IsTooLarge}
use Rattle.yaml_shape.specs.Validity.{IsValidSchema}
use Rattle.yaml_shape.specs.declared.fault.SchemaFault.{SchemaFault}
use Rattle.yaml_shape.specs.PlainData.{PlainData}
use Rattle.yaml_shape.specs.PlainShape.{PlainShape, any_shape, shape_at}
use Rattle.yaml_shape.specs.declared.data.Data.{Data}
use Rattle.yaml_meaning.specs.Meaning.{Means}
use Rattle.yaml_read.specs.Documents.{Input}
use Rattle.yaml_read.specs.MarkedEvents.{events_in, plain_events, plain_marked}
use Rattle.yaml_read.specs.TreeReader.{PlainLimits}
use Rattle.yaml_read.specs.WrongPlace.{IsWrongAt}
use Rattle.yaml_types.specs.BuildFaultText.{build_cause}
use Rattle.yaml_types.specs.BuildRefusal.{IsBuildRefusal}
use Rattle.yaml_types.specs.NodeWrites.{written_node, IsPut, IsFaultOf}
use Rattle.yaml_types.specs.WriteRefusal.{IsWriteRefusal}
use Rattle.yaml_types.specs.Start.{Start, IsClosed}
use Rattle.yaml_types.specs.declared.fault.BuildFault.{BuildFault}
use Rattle.yaml_types.specs.declared.fault.BuildFault.TheVariants as build
use Rattle.yaml_types.specs.declared.fault.BuildFault.TheVariants.{Message}
use Rattle.yaml_write.specs.Outcomes.{made}
use Rattle.serde_yaml.specs.TypedReads as reads
use Rattle.serde_yaml.specs.TypedReads.{TypeGives, Makes, no_schema}
use Rattle.serde_yaml.specs.TypedWrites as writes
use Rattle.serde_yaml.specs.TypedWrites.{TypeWrites, written_stream}
use Rattle.serde_yaml.specs.Headline.{ReadsAs, one_document, no_document, GivesMeaning}
use Rattle.serde_yaml.specs.TypedHeadline.{GivesValue}
use Rattle.serde_yaml.specs.PlainStream.{PlainStream}
use Rattle.serde_yaml.specs.StreamReads.{StreamGives, InputGives, no_stream, a_stream, stream_of}

-- what a node means has its shape
abbrev pub MeaningsHaveShapes : Type 0
MeaningsHaveShapes = (table : List PlainShape) (root n : DocNode) (id : ℕ) (s : PlainShape) (taken : Bool)
    (v : PlainData) (d k : ℕ) → shape_at table id ≡ Some s → Means table root s n taken v d k → HasShape table id v

-- what an input gives is what it means
abbrev pub InputsGiveMeanings : Type 0
InputsGiveMeanings = (limits : PlainLimits) (table : List PlainShape) (s : PlainShape) (input : Input)
    (fault : Option PlainFault) (given : Result PlainData Cause) → InputGives limits table s input fault given
    → GivesMeaning limits table s input fault given

read_has : MeaningsHaveShapes → (limits : PlainLimits) (table : List PlainShape) (id : ℕ) (s : PlainShape)
    (input : Input) (v : PlainData) → shape_at table id ≡ Some s → ReadsAs limits table s input v → HasShape table id v
read_has law limits table id s input v at (one_document root tree e is reads) =
    law table tree tree id s false v reads.nestings reads.followed at reads.means
read_has law limits table id s input v at (no_document e reads) =
    law table nothing nothing id s false v reads.nestings reads.followed at reads.means

pub given_has : MeaningsHaveShapes → InputsGiveMeanings → (limits : PlainLimits) (table : List PlainShape) (id : ℕ)
    (input : Input) (fault : Option PlainFault) (given : Result PlainData Cause) (v : PlainData) → id < length table
    → ((s : PlainShape) → shape_at table id ≡ Some s → InputGives limits table s input fault given) → given ≡ Ok v
    → HasShape table id v
given_has law meaning limits table id input fault given v within gives h =
    let s : PlainShape = get_or table id any_shape in
    let at : shape_at table id ≡ Some s = slice_get-get_or table id any_shape within in
    let means = (meaning limits table s input fault given (gives s at)).found v h in
    read_has law limits table id s input v at means.1

-- the events of marked events are those events
pub same_events : (events : List (Event × Position)) → plain_events events ≡ events_in (plain_marked events)
same_events [] = refl
same_events (e ∷ events) = ap (λ es. event_of e.0 ∷ es) (same_events events)

-- what the stream of an input gives, the input gives
pub whole_input : {limits : PlainLimits} {table : List PlainShape} {s : PlainShape} (input : Input)
    (fault : Option PlainFault) {stream : PlainStream} → IsWellFormed (is_some fault) (events_in input)
    → stream ≡ stream_of input fault → (given : Result PlainData Cause) → StreamGives limits table s stream given
    → InputGives limits table s input fault given
whole_input {limits} {table} {s} input fault formed is given g =
    a_stream formed (subst (λ stream. StreamGives limits table s stream given) is g)

-- what a stream of events gives, they give as an input
pub stream_input : {limits : PlainLimits} {table : List PlainShape} {s : PlainShape} (events : List (Event × Position))
    (fault : Option PlainFault) {stream : PlainStream} → IsWellFormed (is_some fault) (plain_events events)
    → stream ≡ stream_of (plain_marked events) fault
    → (given : Result PlainData Cause) → StreamGives limits table s stream given
    → InputGives limits table s (plain_marked events) fault given
stream_input events fault formed =
    whole_input (plain_marked events) fault (subst (IsWellFormed (is_some fault)) (same_events events) formed)

-- what the stream of an input gives is what the input means
pub stream_means : InputsGiveMeanings → {limits : PlainLimits} {table : List PlainShape} {s : PlainShape}
    (input : Input) (fault : Option PlainFault) {stream : PlainStream} → IsWellFormed (is_some fault) (events_in input)
    → stream ≡ stream_of input fault → (given : Result PlainData Cause) → StreamGives limits table s stream given
    → GivesMeaning limits table s input fault given
stream_means law {limits} {table} {s} input fault formed is given g =
    law limits table s input fault given (whole_input input fault formed is given g)

-- events that are no stream give the fault that they are refused by
pub refused_input : {limits : PlainLimits} {table : List PlainShape} {s : PlainShape}
    (events : List (Event × Position)) (fault : Option PlainFault) (cause : Cause)
    → (place : ℕ) × (cause ≡ NotAStream place) × IsWrongAt (is_some fault) (plain_events events) place
    → InputGives limits table s (plain_marked events) fault (Err cause)
refused_input {limits} {table} {s} events fault cause wrong =
    subst (λ e. InputGives limits table s (plain_marked events) fault (Err e)) (sym wrong.1)
    (no_stream wrong.0 (subst (λ es. IsWrongAt (is_some fault) es wrong.0) (same_events events) wrong.2))

-- data that is answered has the shape
pub answered_has : MeaningsHaveShapes → InputsGiveMeanings → (limits : PlainLimits) (table : List PlainShape) (id : ℕ)
    (input : Input) (fault : Option PlainFault) → id < length table → (result : Result Data Cause)
    → ((s : PlainShape) → shape_at table id ≡ Some s → Answers data_of result (InputGives limits table s input fault))
    → IfOk result (λ found. HasShape table id (data_of found))
answered_has law meaning limits table id input fault within (Ok found) gives =
    given_has law meaning limits table id input fault (Ok (data_of found)) (data_of found) within gives refl
answered_has law meaning limits table id input fault within (Err cause) gives = tt

same_shape : {s t : PlainShape} → ◌≡◌ {A = Option PlainShape} (Some s) (Some t) → s ≡ t
same_shape h = cc

-- the fault for a type that has no schema
abbrev pub IsNoSchema : SchemaFault → Cause → Type 0
IsNoSchema fault cause = (size : ℕ) → IsTooLarge size fault → is_memory cause ≡ false
    → (4096 < size) × (cause ≡ no_schema)

-- data that makes no value is refused by one of the messages
pub no_value : {T : Type 0} (built : PlainData → T → Type 0) (refused : PlainData → List ℕ → Type 0) (d : PlainData)
    (refusal : BuildFault) (cause : Cause) → IsBuildRefusal (refused d) refusal → cause ≡ build_cause refusal
    → is_memory cause ≡ false → Makes {T = T} built refused (Ok d) (Err cause)
no_value built refused d (Message text) cause by is m = (string_bytes text, by, is)
no_value built refused d build.Memory cause by is m =
    let bad : true ≡ false = sym (ap is_memory is) ∙ m in absurd cc

module _ {T : Type 0} (limits : PlainLimits) (start : Start) (built : PlainData → T → Type 0)
    (refused : PlainData → List ℕ → Type 0) (input : Input) (fault : Option PlainFault) where
  pub no_type : (refusal : SchemaFault) (cause : Cause) → IsTooLarge (length start.0) refusal → IsNoSchema refusal cause
      → is_memory cause ≡ false → TypeGives limits start built refused input fault (Err cause)
  no_type refusal cause large is m =
      let no = is (length start.0) large m in
      subst (λ e. TypeGives limits start built refused input fault (Err e)) (sym no.1) (reads.no_shape no.0)

  -- what a type makes of what is read under its shape, the input gives
  pub type_gives : (table : List PlainShape) (id : ℕ) (read : Result PlainData Cause) (given : Result T Cause)
      → table ≡ start.0 → id ≡ start.1 → IsClosed start → IsValidSchema table
      → ((s : PlainShape) → shape_at table id ≡ Some s → InputGives limits table s input fault read)
      → Makes built refused read given → TypeGives limits start built refused input fault given
  type_gives table id read given p q closed valid gives makes =
      let s : PlainShape = get_or start.0 start.1 any_shape in
      let at : shape_at start.0 start.1 ≡ Some s = slice_get-get_or start.0 start.1 any_shape closed.within in
      reads.of_shape (subst IsValidSchema p valid) at
      (subst (λ t. shape_at t start.1 ≡ Some s → InputGives limits t s input fault read) p
      (subst (λ i. shape_at table i ≡ Some s → InputGives limits table s input fault read) q (gives s)) at) makes

  -- a value that is made of what was read is built of data
  found_of : (read : Result PlainData Cause) (given : Result T Cause) (x : T) → given ≡ Ok x
      → Makes built refused read given → (v : PlainData) × (read ≡ Ok v) × built v x
  found_of (Ok d) (Ok y) x h makes = let same : y ≡ x = cc in (d, refl, subst (λ y. built d y) same makes)
  found_of (Ok d) (Err cause) x h makes = let bad = h in absurd cc
  found_of (Err cause) given x h makes = let bad = sym makes ∙ h in absurd cc

  -- what an input gives as a value is what it means
  pub value_given : InputsGiveMeanings → {given : Result T Cause}
      → TypeGives limits start built refused input fault given → GivesValue limits start built refused input fault given
  value_given law (reads.no_shape many) = record {
    found = λ x h. let bad = h in absurd cc;
    only = λ v few none r. absurd (omega (arith, many, few));
  }
  value_given law (reads.of_shape {s} {read} {given} valid at gives makes) =
      let m = law limits start.0 s input fault read gives in
      record {
        found = λ x h.
            let f = found_of read given x h makes in
            let g = m.found f.0 f.1 in
            (g.0, f.0, record { shape = s; at = at; reads = g.1 }, f.2);
        only = λ v few none r.
            let same : r.shape ≡ s = same_shape (sym r.at ∙ at) in
            subst (λ read. Makes built refused read given)
            (m.only v none (subst (λ s. ReadsAs limits start.0 s input v) same r.reads)) makes;
      }

-- a stream that was begun, a node, and its end
pub stream_put : (given : Result EmitNode Cause) (begun mid new : List PlainEmit)
    → IsPut (λ es. es) (Ok (emit_stream_start ∷ emit_document_start ∷ [])) [] begun
    → IsPut emit_node_events given begun mid
    → IsPut (λ es. es) (Ok (emit_document_end ∷ emit_stream_end ∷ [])) mid new
    → made written_stream given ≡ Ok new
stream_put (Err cause) begun mid new s e h = absurd (cc)
stream_put (Ok node) begun mid new s e h =
    let first : emit_stream_start ∷ emit_document_start ∷ [] ≡ begun = cc in
    let middle : begun ++ emit_node_events node ≡ mid = cc in
    let last : mid ++ emit_document_end ∷ emit_stream_end ∷ [] ≡ new = cc in
    let ends : List PlainEmit = emit_document_end ∷ emit_stream_end ∷ [] in
    ap Ok (ap (λ es. emit_stream_start ∷ (es ++ emit_stream_end ∷ [])) (append-nil (emit_document_events node))
    ∙ (ap (λ es. emit_stream_start ∷ (emit_document_start ∷ es))
    (append_assoc (emit_node_events node) (emit_document_end ∷ []) (emit_stream_end ∷ []))
    ∙ (ap (λ es. (es ++ emit_node_events node) ++ ends) first ∙ (ap (λ es. es ++ ends) middle ∙ last))))

module _ (start : Start) (d : PlainData) (unwritten : List ℕ → Type 0) where
  pub no_type_written : (refusal : SchemaFault) (cause : Cause) → IsTooLarge (length start.0) refusal
      → IsNoSchema refusal cause → is_memory cause ≡ false → TypeWrites start d unwritten (Err cause)
  no_type_written refusal cause large is m =
      let no = is (length start.0) large m in
      subst (λ e. TypeWrites start d unwritten (Err e)) (sym no.1) (writes.no_shape no.0)

  -- a value that is refused by a message of its type is told so
  pub type_refused : (cause : Cause) → IsWriteRefusal unwritten cause → is_memory cause ≡ false
      → TypeWrites start d unwritten (Err cause)
  type_refused cause.Memory by m = absurd cc
  type_refused (cause.Custom message None) by m = writes.by_message message by
  type_refused (cause.Custom message (Some place)) by m = absurd by
  type_refused _ by m = absurd by

  refusal_told : (cause : Cause) → IsValidSchema start.0
      → (written_node start.0 start.1 d ≡ Err cause) ⊎ IsWriteRefusal unwritten cause → is_memory cause ≡ false
      → TypeWrites start d unwritten (Err cause)
  refusal_told cause valid (inl e) m =
      subst (TypeWrites start d unwritten) (ap (made written_stream) e) (writes.of_shape valid)
  refusal_told cause valid (inr by) m = type_refused cause by m

  -- what a node is refused for, the value is refused for
  pub node_refused : (table : List PlainShape) (id : ℕ) (cause : Cause) → table ≡ start.0 → id ≡ start.1
      → IsValidSchema table → IsFaultOf (written_node table id d) unwritten cause → is_memory cause ≡ false
      → TypeWrites start d unwritten (Err cause)
  node_refused table id cause p q valid fault m =
      refusal_told cause (subst IsValidSchema p valid)
      (subst (λ t. (written_node t start.1 d ≡ Err cause) ⊎ IsWriteRefusal unwritten cause) p
      (subst (λ i. (written_node table i d ≡ Err cause) ⊎ IsWriteRefusal unwritten cause) q (fault m))) m

  -- a node between the start of a stream and its end is what the type writes
  pub node_written : (table : List PlainShape) (id : ℕ) (begun mid new : List PlainEmit) → table ≡ start.0
      → id ≡ start.1 → IsValidSchema table
      → IsPut (λ es. es) (Ok (emit_stream_start ∷ emit_document_start ∷ [])) [] begun
      → IsPut emit_node_events (written_node table id d) begun mid
      → IsPut (λ es. es) (Ok (emit_document_end ∷ emit_stream_end ∷ [])) mid new
      → TypeWrites start d unwritten (Ok new)
  node_written table id begun mid new p q valid s e h =
      let same : written_node start.0 start.1 d ≡ written_node table id d =
      ap (λ t. written_node t start.1 d) (sym p) ∙ ap (λ i. written_node table i d) (sym q) in
      subst (TypeWrites start d unwritten)
      (ap (made written_stream) same ∙ stream_put (written_node table id d) begun mid new s e h)
      (writes.of_shape (subst IsValidSchema p valid))
