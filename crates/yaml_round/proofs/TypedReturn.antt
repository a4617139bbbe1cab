-- A value of a type that was written is read as an equal value.
use Rattle.std.proofs.Common.{◌≡◌, ◌≤◌, ℕ, List, length, Some, None, Result, Ok, Err, Bool, true, refl, sym, ap}
use Rattle.std.proofs.Common.{◌∙◌, subst, arith}
use Rattle.yaml_base.specs.EmitEvents.{PlainEmit}
use Rattle.yaml_base.specs.EmitTree.{EmitNode}
use Rattle.yaml_base.specs.declared.error.Cause.{Cause}
use Rattle.yaml_base.specs.declared.error.Cause.TheVariants.{Custom}
use Rattle.yaml_shape.specs.PlainData.{PlainData}
use Rattle.yaml_shape.specs.PlainShape.{PlainShape, shape_at}
use Rattle.yaml_shape.specs.Validity.{IsValidSchema}
use Rattle.yaml_read.specs.Documents.{Input}
use Rattle.yaml_read.specs.TreeReader.{PlainLimits}
use Rattle.yaml_types.specs.Start.{Start}
use Rattle.yaml_write.specs.Outcomes.{Outcome, made}
use Rattle.yaml_write.specs.Written.{written}
use Rattle.serde_yaml.specs.StreamReads.{InputGives}
use Rattle.serde_yaml.specs.TypedReads as reads
use Rattle.serde_yaml.specs.TypedReads.{TypeGives, Makes}
use Rattle.serde_yaml.specs.TypedWrites as writes
use Rattle.serde_yaml.specs.TypedWrites.{TypeWrites, written_stream}
use Rattle.yaml_round.specs.ReadsBack.{IsSameUnless, is_same, by_message}

-- the table is a schema, and this is what is written
pub record Wrote (start : Start) (d : PlainData) (events : List PlainEmit) : Type 0 where
  pub valid : IsValidSchema start.0
  pub root : EmitNode
  pub is_written : written start.0 start.1 None d ≡ Ok root
  pub stream : written_stream root ≡ events

made_of : (start : Start) (d : PlainData) (events : List PlainEmit) → IsValidSchema start.0 → (o : Outcome)
    → written start.0 start.1 None d ≡ o → made written_stream o ≡ Ok events → Wrote start d events
made_of start d events valid (Ok root) is h = record { valid = valid; root = root; is_written = is; stream = cc }
made_of start d events valid (Err cause) is h = absurd cc

pub wrote : {start : Start} {d : PlainData} {unwritten : List ℕ → Type 0} {o : Result (List PlainEmit) Cause}
    (events : List PlainEmit) → TypeWrites start d unwritten o → o ≡ Ok events → Wrote start d events
wrote events (writes.no_shape many) h = absurd cc
wrote {start} {d} events (writes.of_shape valid) h =
    made_of start d events valid (written start.0 start.1 None d) refl h
wrote events (writes.by_message message by) h = absurd cc

module _ {T : Type 0} (limits : PlainLimits) (start : Start) (built : PlainData → T → Type 0)
    (refused : PlainData → List ℕ → Type 0) (input : Input) where
  -- what the type makes of what is read
  pub record Made (given : Result T Cause) : Type 0 where
    pub shape : PlainShape
    pub at : shape_at start.0 start.1 ≡ Some shape
    pub read : Result PlainData Cause
    pub gives : InputGives limits start.0 shape input None read
    pub makes : Makes built refused read given

  pub made_from : {given : Result T Cause} → IsValidSchema start.0
      → TypeGives limits start built refused input None given → Made given
  made_from valid (reads.no_shape many) = let few : length start.0 ≤ 4096 = valid.few in absurd (omega arith)
  made_from valid (reads.of_shape {s} {read} {given} other at gives makes) =
      record { shape = s; at = at; read = read; gives = gives; makes = makes }

-- a value that is made of data like that of another is equal to it
pub returned_of : {T : Type 0} (built : PlainData → T → Type 0) (refused : PlainData → List ℕ → Type 0)
    (P : T → Type 0) (d : PlainData) (read : Result PlainData Cause) (given : Result T Cause) → read ≡ Ok d
    → ((y : T) → built d y → P y) → ((message : List ℕ) → refused d message → ⊥)
    → Makes built refused read given → (y : T) × (given ≡ Ok y) × P y
returned_of built refused P d (Ok e) (Ok y) h good bad m =
    let same : e ≡ d = cc in (y, refl, good y (subst (λ f. built f y) same m))
returned_of built refused P d (Ok e) (Err cause) h good bad m =
    let same : e ≡ d = cc in absurd (bad m.0 (subst (λ f. refused f m.0) same m.1))
returned_of built refused P d (Err c) given h good bad m = absurd cc

-- what fits is written, unless a message refuses it
pub only_by_message : {start : Start} {d : PlainData} {unwritten : List ℕ → Type 0}
    {o : Result (List PlainEmit) Cause} (cause : Cause) (e : EmitNode) → length start.0 ≤ 4096
    → written start.0 start.1 None d ≡ Ok e → TypeWrites start d unwritten o → o ≡ Err cause
    → IsSameUnless unwritten (Err cause)
only_by_message cause e few is (writes.no_shape many) h = absurd (omega (arith, many, few))
only_by_message cause e few is (writes.of_shape valid) h =
    let bad = sym (ap (made written_stream) is) ∙ h in absurd cc
only_by_message {unwritten = unwritten} cause e few is (writes.by_message message by) h =
    let same : Custom message None ≡ cause = cc in
    subst (λ c. IsSameUnless unwritten (Err c)) same (by_message message by)

pub same_value : {T : Type 0} {x y : T} → ◌≡◌ {A = Result T Cause} (Ok x) (Ok y) → x ≡ y
same_value h = cc

-- a value that is read where an equal one has to be is equal
pub equal_again : {T : Type 0} (eq : T → T → Bool) (unwritten : List ℕ → Type 0) (x found : T) (same : Bool)
    → same ≡ eq x found
    → (y : T) × (◌≡◌ {A = Result T Cause} (Ok found) (Ok y)) × (eq x y ≡ true)
    → IsSameUnless unwritten (Ok same)
equal_again eq unwritten x found same is r =
    let e : r.0 ≡ found = sym (same_value r.1) in
    subst (λ b. IsSameUnless unwritten (Ok b)) (sym (is ∙ subst (λ y. eq x y ≡ true) e r.2)) is_same
