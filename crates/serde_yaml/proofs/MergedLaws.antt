-- What is read once merge keys are treated.
use Rattle.std.specs.Prelude.{IfErr, IfOk, IsErrAnd}
use Rattle.std.proofs.Common.{◌≡◌, ◌<◌, ℕ, List, [], ◌∷◌, ◌++◌, length, Result, Ok, Err, Bool, true, false}
use Rattle.std.proofs.Common.{Option, Some, IfNone, is_some, option_to_list, get_or, sym, ap, subst, ◌∙◌, refl}
use Rattle.std.proofs.lemmas.Option.{slice_get-get_or}
use Rattle.yaml_base.specs.Answer.{Answers, is_memory}
use Rattle.yaml_base.specs.MarkedEvents.{events_in, plain_events, plain_marked}
use Rattle.yaml_base.specs.PlainDocument.{PlainDocument}
use Rattle.yaml_base.specs.PlainFault.{PlainFault}
use Rattle.yaml_base.specs.declared.error.Cause.{Cause}
use Rattle.yaml_base.specs.Position.{Position}
use Rattle.yaml_base.specs.declared.error.Cause.TheVariants.{EndOfStream, NotAStream}
use Rattle.yaml_base.specs.declared.event.Event.{Event}
use Rattle.yaml_load.specs.StreamLaw.{HasTree}
use Rattle.yaml_merge.specs.Treated.{IsTreated, IsUntreated}
use Rattle.yaml_merge.specs.declared.merge.Merge.{Merge}
use Rattle.yaml_read.specs.Documents.{Input, documents_of}
use Rattle.yaml_read.specs.Reads.{DocumentGives}
use Rattle.yaml_read.specs.TreeReader.{PlainLimits}
use Rattle.yaml_read.specs.WrongPlace.{IsWrongAt}
use Rattle.yaml_shape.specs.DataView.{data_of}
use Rattle.yaml_shape.specs.HasShape.{HasShape}
use Rattle.yaml_shape.specs.Join.{IsTooLarge}
use Rattle.yaml_shape.specs.PlainData.{PlainData}
use Rattle.yaml_shape.specs.PlainShape.{PlainShape, any_shape, shape_at}
use Rattle.yaml_shape.specs.Validity.{IsValidSchema}
use Rattle.yaml_shape.specs.declared.data.Data.{Data}
use Rattle.yaml_shape.specs.declared.fault.SchemaFault.{SchemaFault}
use Rattle.yaml_types.specs.Start.{Start, IsClosed}
use Rattle.serde_yaml.specs.MergedReads as merged
use Rattle.serde_yaml.specs.MergedReads.{GivesMergedOwn, InputMakes, RefusesMergedOwn, TreatedGives, TreatedMakes}
use Rattle.serde_yaml.specs.MergedReads.{no_document, untreated, treated}
use Rattle.serde_yaml.specs.OwnEvents.{events_alone}
use Rattle.serde_yaml.specs.StreamReads.{some_follow, unless_more}
use Rattle.serde_yaml.specs.TextReads.{IsParsed}
use Rattle.serde_yaml.specs.TypedReads.{Makes}
use Rattle.serde_yaml.proofs.FirstDocument.{answers_weaker, follows_second}
use Rattle.serde_yaml.proofs.TextLaws.{parsed_as}
use Rattle.serde_yaml.proofs.TypedLaws.{IsNoSchema, MeaningsHaveShapes, same_events}

module _ (limits : PlainLimits) (table : List PlainShape) (s : PlainShape) (merge : Merge) where
  -- without documents the stream is at its end
  pub none_there : {documents : List PlainDocument} → documents ≡ []
      → TreatedGives limits table s merge documents (Err EndOfStream)
  none_there none = subst (λ ds. TreatedGives limits table s merge ds (Err EndOfStream)) (sym none) no_document

  -- a first document that is refused
  pub first_refused : {documents rest : List PlainDocument} (document : PlainDocument) {cause : Cause}
      → documents ≡ document ∷ rest → IsUntreated merge document cause
      → TreatedGives limits table s merge documents (Err cause)
  first_refused {documents} {rest} document {cause} items refused =
      subst (λ ds. TreatedGives limits table s merge ds (Err cause)) (sym items)
      (untreated {document = document} {others = rest} refused)

  -- a first document that is treated and read, where it is known whether a second one is there
  pub first_read : {documents rest : List PlainDocument} {others : Bool} (document kept : PlainDocument)
      (second : Option PlainDocument) (left : List PlainDocument) → documents ≡ document ∷ rest
      → others ≡ is_some second → rest ≡ option_to_list second ++ left → IfNone second (rest ≡ [])
      → IsTreated merge document kept
      → kept.ending ≡ document.ending → (given : Result PlainData Cause)
      → (found : Result PlainData Cause) × DocumentGives limits table s kept found × (given ≡ unless_more others found)
      → TreatedGives limits table s merge documents given
  first_read {documents} {rest} document kept second left items told behind none treats ends given h =
      let more = told ∙ follows_second second left rest behind none in
      let is : given ≡ unless_more (some_follow rest) h.0 = h.2 ∙ ap (λ b. unless_more b h.0) more in
      subst (λ ds. TreatedGives limits table s merge ds given) (sym items)
      (subst (TreatedGives limits table s merge (document ∷ rest)) (sym is)
      (treated {document = document} {kept = kept} {others = rest} treats ends h.1))

-- what a document gives has the shape
pub given_shape : MeaningsHaveShapes → (limits : PlainLimits) (table : List PlainShape) (id : ℕ)
    (document : PlainDocument) (v : PlainData) → HasTree document → id < length table
    → ((s : PlainShape) → shape_at table id ≡ Some s → DocumentGives limits table s document (Ok v))
    → HasShape table id v
given_shape law limits table id document v tree within gives =
    let s : PlainShape = get_or table id any_shape in
    let at : shape_at table id ≡ Some s = slice_get-get_or table id any_shape within in
    let found = gives s at in
    let root = tree (found.whole v refl) in
    let reads = found.found root.0 v root.1 refl in
    law table root.0 root.0 id s false v reads.nestings reads.followed at reads.means

-- where data is given, it is that of the first document
found_first : (more : Bool) (found : Result PlainData Cause) (v : PlainData) → Ok v ≡ unless_more more found
    → found ≡ Ok v
found_first true (Ok w) v h = absurd cc
found_first false (Ok w) v h = sym h
found_first true (Err cause) v h = absurd cc
found_first false (Err cause) v h = absurd cc

-- and has the shape
pub first_shape : MeaningsHaveShapes → (limits : PlainLimits) (table : List PlainShape) (id : ℕ)
    (document : PlainDocument) (others : Bool) → HasTree document → id < length table → (result : Result Data Cause)
    → ((s : PlainShape) → shape_at table id ≡ Some s → Answers data_of result (λ given.
    (found : Result PlainData Cause) × DocumentGives limits table s document found
    × (given ≡ unless_more others found)))
    → IfOk result (λ found. HasShape table id (data_of found))
first_shape law limits table id document others tree within (Ok x) gives =
    given_shape law limits table id document (data_of x) tree within
    (λ s at. let h = gives s at in
    subst (DocumentGives limits table s document) (found_first others h.0 (data_of x) h.2) h.1)
first_shape law limits table id document others tree within (Err cause) gives = tt

-- what is answered of the documents of a text's events is answered of the text
pub of_parsed : {X Y : Type 0} (view : X → Y) (result : Result X Cause)
    (allowed : List PlainDocument → Result Y Cause → Type 0)
    (documents_in : Input → Option PlainFault → List PlainDocument) {text : List ℕ} {documents : List PlainDocument}
    → IsParsed text (λ events fault. documents ≡ documents_in events fault)
    → Answers view result (allowed documents)
    → Answers view result (λ given. IsParsed text (λ events fault. allowed (documents_in events fault) given))
of_parsed view (Ok x) allowed documents_in p holds =
    parsed_as (λ es f. allowed (documents_in es f) (Ok (view x))) p
    (subst (λ ds. allowed ds (Ok (view x))) p.holds holds)
of_parsed view (Err cause) allowed documents_in p holds = λ m.
    parsed_as (λ es f. allowed (documents_in es f) (Err cause)) p
    (subst (λ ds. allowed ds (Err cause)) p.holds (holds m))

-- where a value is answered, it is allowed
pub given_ok : {X : Type 0} (result : Result X Cause) (allowed : Result X Cause → Type 0)
    → Answers (λ value. value) result allowed → IfOk result (λ value. allowed (Ok value))
given_ok (Ok x) allowed h = h
given_ok (Err cause) allowed h = tt

-- what holds of a fault holds of it where it is passed on
pub passed_on : {X : Type 0} (result : Result X Cause) (P : Cause → Type 0) (fault : Cause)
    → IsErrAnd result (λ given. given ≡ fault) → P fault → IfErr result P
passed_on (Ok x) P fault given h = tt
passed_on (Err cause) P fault given h = subst P (sym given) h

-- a fault that is answered is allowed
pub refused_err : {X : Type 0} (result : Result X Cause) (allowed : Result X Cause → Type 0)
    → Answers (λ value. value) result allowed → IfErr result (λ cause. is_memory cause ≡ false → allowed (Err cause))
refused_err (Ok x) allowed h = tt
refused_err (Err cause) allowed h = h

module _ {T : Type 0} (limits : PlainLimits) (start : Start) (built : PlainData → T → Type 0)
    (refused : PlainData → List ℕ → Type 0) (merge : Merge) where
  -- what is made of the documents of a text's own events is made of these
  pub own_makes : {text : List ℕ} (given : Result T Cause)
      → IsParsed text (λ events fault.
      TreatedMakes limits start built refused merge (documents_of (events_alone events) fault) given)
      → IsParsed text (λ events fault. InputMakes limits start built refused merge (events_alone events) fault given)
  own_makes given p =
      parsed_as (λ events fault. InputMakes limits start built refused merge (events_alone events) fault given) p
      (merged.a_stream p.holds)

  -- a value that is made of them
  pub own_given : {text : List ℕ} {documents : List PlainDocument} (result : Result T Cause)
      → IsParsed text (λ events fault. documents ≡ documents_of (events_alone events) fault)
      → Answers (λ value. value) result (TreatedMakes limits start built refused merge documents)
      → IfOk result (λ value. GivesMergedOwn limits start built refused merge text (Ok value))
  own_given {text} result p h =
      given_ok result (GivesMergedOwn limits start built refused merge text)
      (of_parsed (λ value. value) result (TreatedMakes limits start built refused merge)
      (λ events fault. documents_of (events_alone events) fault) p h)

  -- a fault of them
  pub own_refused : {text : List ℕ} {documents : List PlainDocument} (result : Result T Cause)
      → IsParsed text (λ events fault. documents ≡ documents_of (events_alone events) fault)
      → Answers (λ value. value) result (TreatedMakes limits start built refused merge documents)
      → IfErr result (λ cause. is_memory cause ≡ false → RefusesMergedOwn limits start built refused merge text cause)
  own_refused {text} result p h =
      refused_err result
      (λ given. IsParsed text (λ events fault.
      InputMakes limits start built refused merge (events_alone events) fault given))
      (answers_weaker (λ value. value) _ _ own_makes result
      (of_parsed (λ value. value) result (TreatedMakes limits start built refused merge)
      (λ events fault. documents_of (events_alone events) fault) p h))

  -- events that are no stream
  pub own_wrong : {text : List ℕ} (p : IsParsed text (λ events fault. Unit {0})) (events : List (Event × Position))
      (cause : Cause)
      → plain_marked events ≡ events_alone (plain_marked p.events)
      → (is_memory cause ≡ false → (place : ℕ) × (cause ≡ NotAStream place)
      × IsWrongAt (is_some p.fault) (plain_events events) place)
      → is_memory cause ≡ false → RefusesMergedOwn limits start built refused merge text cause
  own_wrong p events cause alone wrong m =
      let w = wrong m in
      parsed_as (λ es f. InputMakes limits start built refused merge (events_alone es) f (Err cause)) p
      (subst (λ e. InputMakes limits start built refused merge (events_alone (plain_marked p.events)) p.fault (Err e))
      (sym w.1) (merged.no_stream w.0
      (subst (λ es. IsWrongAt (is_some p.fault) es w.0) (same_events events ∙ ap events_in alone) w.2)))

module _ {T : Type 0} (limits : PlainLimits) (start : Start) (built : PlainData → T → Type 0)
    (refused : PlainData → List ℕ → Type 0) (merge : Merge) (documents : List PlainDocument) where
  -- a type without a schema makes nothing
  pub no_type_made : (refusal : SchemaFault) (cause : Cause) → IsTooLarge (length start.0) refusal
      → IsNoSchema refusal cause → is_memory cause ≡ false
      → TreatedMakes limits start built refused merge documents (Err cause)
  no_type_made refusal cause large is m =
      let no = is (length start.0) large m in
      subst (λ e. TreatedMakes limits start built refused merge documents (Err e)) (sym no.1) (merged.no_shape no.0)

  -- what a type makes of what is read under its shape
  pub type_makes : (table : List PlainShape) (id : ℕ) (read : Result PlainData Cause) (given : Result T Cause)
      → table ≡ start.0 → id ≡ start.1 → IsClosed start → IsValidSchema table
      → ((s : PlainShape) → shape_at table id ≡ Some s → TreatedGives limits table s merge documents read)
      → Makes built refused read given → TreatedMakes limits start built refused merge documents given
  type_makes table id read given p q closed valid gives makes =
      let s : PlainShape = get_or start.0 start.1 any_shape in
      let at : shape_at start.0 start.1 ≡ Some s = slice_get-get_or start.0 start.1 any_shape closed.within in
      merged.of_shape (subst IsValidSchema p valid) at
      (subst (λ t. shape_at t start.1 ≡ Some s → TreatedGives limits t s merge documents read) p
      (subst (λ i. shape_at table i ≡ Some s → TreatedGives limits table s merge documents read) q (gives s)) at) makes
