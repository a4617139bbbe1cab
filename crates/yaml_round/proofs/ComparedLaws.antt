-- What is known of values that are compared with what is read.
use Rattle.std.specs.Prelude.{IfErr, IfNone}
use Rattle.std.proofs.Common.{◌≡◌, ◌<◌, ◌≤◌, ◌+◌, ◌∙◌, ℕ, Bool, true, false, not, List, [], ◌∷◌, ◌++◌, length, drop}
use Rattle.std.proofs.Common.{Option, None, Some, Result, Ok, Err, ap, get_or, is_some, option_to_list, refl, sym}
use Rattle.std.proofs.Common.{subst}
use Rattle.std.proofs.lemmas.List.{drop_all}
use Rattle.std.proofs.lemmas.Option.{slice_get-get_or}
use Rattle.yaml_base.specs.Answer.{Answers, is_memory}
use Rattle.yaml_base.specs.PlainDocument.{PlainDocument}
use Rattle.yaml_base.specs.declared.error.Cause.{Cause}
use Rattle.yaml_base.specs.declared.error.Cause.TheVariants as cause
use Rattle.yaml_documents.specs.TextDocuments.{IsParsed}
use Rattle.yaml_read.specs.Reads.{DocumentGives}
use Rattle.yaml_read.specs.TreeReader.{PlainLimits}
use Rattle.yaml_shape.specs.Join.{IsTooLarge}
use Rattle.yaml_shape.specs.PlainData.{PlainData}
use Rattle.yaml_shape.specs.PlainShape.{PlainShape, any_shape, shape_at}
use Rattle.yaml_shape.specs.declared.fault.SchemaFault.{SchemaFault}
use Rattle.yaml_types.specs.Start.{Start, IsClosed}
use Rattle.yaml_types.specs.WriteRefusal.{IsWriteRefusal}
use Rattle.serde_yaml.specs.TypedReads.{Makes, TypeGives, no_schema}
use Rattle.yaml_round.specs.Compared.{ComparesDocument, ComparesEach, ComparesInput, HasNoData, equals, no_type}
use Rattle.yaml_round.specs.Compared.{no_value}
use Rattle.yaml_round.specs.ReadsBack.{IsSameUnless, is_same, by_message}
use Rattle.yaml_round.proofs.InTurnLaws.{from_place}

-- a type without a schema has no data
pub no_data : (start : Start) (unwritten : List ℕ → Type 0) (refusal : SchemaFault) (cause : Cause)
    → IsTooLarge (length start.0) refusal
    → ((size : ℕ) → IsTooLarge size refusal → is_memory cause ≡ false → (4096 < size) × (cause ≡ no_schema))
    → is_memory cause ≡ false → HasNoData start unwritten cause
no_data start unwritten refusal cause large is m =
    let no = is (length start.0) large m in subst (HasNoData start unwritten) (sym no.1) (no_type no.0)

-- a value that is refused by a message has none
pub no_data_made : (start : Start) (unwritten : List ℕ → Type 0) (fault : Cause) → IsWriteRefusal unwritten fault
    → is_memory fault ≡ false → HasNoData start unwritten fault
no_data_made start unwritten cause.Memory by m = absurd cc
no_data_made start unwritten (cause.Custom message None) by m = no_value message by
no_data_made start unwritten (cause.Custom message (Some place)) by m = absurd by
no_data_made start unwritten _ by m = absurd by

pub no_data_back : (start : Start) {unwritten : List ℕ → Type 0} {given : Result Bool Cause} (fault : Cause)
    → IsSameUnless unwritten given → given ≡ Err fault → HasNoData start unwritten fault
no_data_back start fault is_same h = absurd cc
no_data_back start {unwritten} fault (by_message message by) h =
    let same : cause.Custom message None ≡ fault = cc in
    subst (HasNoData start unwritten) same (no_value message by)

pub refused_back : (start : Start) (unwritten : List ℕ → Type 0) (result : Result Bool Cause)
    → Answers (λ same. same) result (IsSameUnless unwritten)
    → IfErr result (λ fault. is_memory fault ≡ false → HasNoData start unwritten fault)
refused_back start unwritten (Ok same) h = tt
refused_back start unwritten (Err fault) h = λ m. no_data_back start fault (h m) refl

module _ {T : Type 0} (limits : PlainLimits) (start : Start) (built : PlainData → T → Type 0)
    (refused : PlainData → List ℕ → Type 0) (eq : T → T → Bool) (x : T) where
  -- what a text gives is compared
  pub text_compared : {text : List ℕ} (read : Result T Cause) (given : Result Bool Cause)
      → IsParsed text (λ events fault. TypeGives limits start built refused events fault read)
      → given ≡ equals eq x read
      → IsParsed text (λ events fault. ComparesInput limits start built refused eq x events fault given)
  text_compared read given p is = record {
    events = p.events;
    fault = p.fault;
    parsed = p.parsed;
    holds = (read, p.holds, is);
  }

  -- what is made of a document is compared
  pub document_compared : (document : PlainDocument) (table : List PlainShape) (id : ℕ)
      (read : Result PlainData Cause) (made : Result T Cause) (given : Result Bool Cause) → table ≡ start.0
      → id ≡ start.1 → IsClosed start
      → ((s : PlainShape) → shape_at table id ≡ Some s → DocumentGives limits table s document read)
      → Makes built refused read made → given ≡ equals eq x made
      → ComparesDocument limits start built refused eq x document given
  document_compared document table id read made given p q closed gives makes is =
      let s : PlainShape = get_or start.0 start.1 any_shape in
      let at : shape_at start.0 start.1 ≡ Some s = slice_get-get_or start.0 start.1 any_shape closed.within in
      let here : shape_at table id ≡ Some s = ap (λ t. shape_at t id) p ∙ (ap (shape_at start.0) q ∙ at) in
      (s, read, made, at, subst (λ t. DocumentGives limits t s document read) p (gives s here), makes, is)

  -- a document that makes an equal value is gone behind
  pub equal_first : (xs : List T) (i : ℕ) (found : PlainDocument) (old left : List PlainDocument) (same : Bool)
      (given : Result Bool Cause) → i < length xs → x ≡ get_or xs i x → old ≡ found ∷ left
      → ComparesDocument limits start built refused eq x found (Ok same) → same ≡ true
      → ComparesEach limits start built refused eq (drop (i + 1) xs) left given
      → ComparesEach limits start built refused eq (drop i xs) old given
  equal_first xs i found old left same given within is items here equal rest =
      subst (λ ds. ComparesEach limits start built refused eq (drop i xs) ds given) (sym items)
      (subst (λ ys. ComparesEach limits start built refused eq ys (found ∷ left) given)
      (sym (from_place xs i x within is))
      (Ok true, subst (λ b. ComparesDocument limits start built refused eq x found (Ok b)) equal here, rest))

  -- another value ends it
  pub other_first : (xs : List T) (i : ℕ) (found : PlainDocument) (old left : List PlainDocument) (same : Bool)
      → i < length xs → x ≡ get_or xs i x → old ≡ found ∷ left
      → ComparesDocument limits start built refused eq x found (Ok same) → same ≡ false
      → ComparesEach limits start built refused eq (drop i xs) old (Ok false)
  other_first xs i found old left same within is items here other =
      subst (λ ds. ComparesEach limits start built refused eq (drop i xs) ds (Ok false)) (sym items)
      (subst (λ ys. ComparesEach limits start built refused eq ys (found ∷ left) (Ok false))
      (sym (from_place xs i x within is))
      (Ok false, subst (λ b. ComparesDocument limits start built refused eq x found (Ok b)) other here, refl))

  -- so does a fault
  pub fault_first : (xs : List T) (i : ℕ) (found : PlainDocument) (old left : List PlainDocument) (cause : Cause)
      → i < length xs → x ≡ get_or xs i x → old ≡ found ∷ left
      → ComparesDocument limits start built refused eq x found (Err cause)
      → ComparesEach limits start built refused eq (drop i xs) old (Err cause)
  fault_first xs i found old left cause within is items here =
      subst (λ ds. ComparesEach limits start built refused eq (drop i xs) ds (Err cause)) (sym items)
      (subst (λ ys. ComparesEach limits start built refused eq ys (found ∷ left) (Err cause))
      (sym (from_place xs i x within is)) (Err cause, here, refl))

  -- so does a value for which no document is left
  pub none_left : (xs : List T) (i : ℕ) (old : List PlainDocument) → i < length xs → x ≡ get_or xs i x → old ≡ []
      → ComparesEach limits start built refused eq (drop i xs) old (Ok false)
  none_left xs i old within is none =
      subst (λ ds. ComparesEach limits start built refused eq (drop i xs) ds (Ok false)) (sym none)
      (subst (λ ys. ComparesEach limits start built refused eq ys [] (Ok false)) (sym (from_place xs i x within is))
      refl)

module _ {T : Type 0} (limits : PlainLimits) (start : Start) (built : PlainData → T → Type 0)
    (refused : PlainData → List ℕ → Type 0) (eq : T → T → Bool) where
  -- behind the last value no document is to be left
  none_behind : (old left : List PlainDocument) (next : Option PlainDocument) (none : Bool)
      → old ≡ option_to_list next ++ left → IfNone next (old ≡ []) → is_some next ≡ not none
      → ComparesEach limits start built refused eq [] old (Ok none)
  none_behind old left None true items empty is =
      subst (λ ds. ComparesEach limits start built refused eq [] ds (Ok true)) (sym empty) refl
  none_behind old left None false items empty is = absurd cc
  none_behind old left (Some next) true items empty is = absurd cc
  none_behind old left (Some next) false items empty is =
      subst (λ ds. ComparesEach limits start built refused eq [] ds (Ok false)) (sym items) refl

  -- so it is from the end of the values on
  pub last_compared : (xs : List T) (i : ℕ) (old left : List PlainDocument) (next : Option PlainDocument) (none : Bool)
      → length xs ≤ i → old ≡ option_to_list next ++ left → IfNone next (old ≡ []) → is_some next ≡ not none
      → ComparesEach limits start built refused eq (drop i xs) old (Ok none)
  last_compared xs i old left next none past items empty is =
      subst (λ ys. ComparesEach limits start built refused eq ys old (Ok none)) (sym (drop_all i xs past))
      (none_behind old left next none items empty is)
