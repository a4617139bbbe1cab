-- What an emitter has taken, and its text, stand for one another from event to event.
use Rattle.std.proofs.Common.{◌≡◌, ◌≤◌, ℕ, Bool, true, false, List, [], ◌∷◌, ◌++◌, append_assoc, length}
use Rattle.std.proofs.Common.{Option, Some, None, refl, sym, ap, ◌∙◌, subst, Result, Ok, Err, arith}
use Rattle.std.proofs.lemmas.List.{append-nil, length-append}
use Rattle.std.specs.Prelude.{IsErrAnd, OnOk, ◌+◌, suc}
use Rattle.yaml_base.specs.EmitEvents.{PlainEmit, emit_stream_start, emit_stream_end, emit_document_start}
use Rattle.yaml_base.specs.EmitEvents.{emit_document_end, emit_scalar, emit_sequence_start, emit_sequence_end}
use Rattle.yaml_base.specs.EmitEvents.{emit_mapping_start, emit_mapping_end, emit_of}
use Rattle.yaml_base.specs.EmitTree.{EmitNode, IsEmitStream}
use Rattle.yaml_base.specs.declared.emitter.EmitEvent.{EmitEvent}
use Rattle.yaml_emit.specs.Emitting.{Continues, Ends, HasTaken, StandsFor, held_events, is_start}
use Rattle.yaml_emit.specs.LayoutMachine.{Laid, Steps, hollow, hollow_at, is_mapping_end, is_sequence_end, printed_from}
use Rattle.yaml_emit.specs.LayoutMachine.{laid, step, unbegun, with_node_text}
use Rattle.yaml_emit.specs.declared.emitter.Printing.{Printing}
use Rattle.yaml_emit.specs.declared.emitter.Progress.{Progress}
use Rattle.yaml_emit.specs.declared.emitter.Progress.TheVariants.{Going, Wrong, Short}
use Rattle.yaml_emit.specs.declared.stop.Stop.{Stop}
use Rattle.yaml_emit.specs.declared.stop.Stop.TheVariants.{OutOfPlace, Memory}
use Rattle.yaml_emit.proofs.RunLaws.{run_hollow, run_step}
use Rattle.yaml_emit.proofs.StreamLaws.{no_stream, whole_text}

-- an empty collection, by what is known of the event behind its start
pub run_empty : (s : Laid) (e next : PlainEmit) (sequence_ends mapping_ends : Bool) (n : EmitNode)
    → sequence_ends ≡ is_sequence_end next → mapping_ends ≡ is_mapping_end next
    → ((behind : List PlainEmit) → hollow_at e behind sequence_ends mapping_ends ≡ Some (n, behind))
    → (rest : List PlainEmit)
    → printed_from (Some s) (e ∷ next ∷ rest) ≡ printed_from (with_node_text s n) rest
run_empty s e next sequence_ends mapping_ends n of_sequence of_mapping h rest =
    run_hollow s e (next ∷ rest) rest n
    (sym (ap (λ b. hollow_at e rest b mapping_ends) of_sequence
    ∙ ap (λ b. hollow_at e rest (is_sequence_end next) b) of_mapping) ∙ h rest)

-- a collection that has parts
pub run_begun : (s : Laid) (e next : PlainEmit) (sequence_ends mapping_ends : Bool)
    → sequence_ends ≡ is_sequence_end next → mapping_ends ≡ is_mapping_end next
    → ((behind : List PlainEmit) → hollow_at e behind sequence_ends mapping_ends ≡ None)
    → (rest : List PlainEmit)
    → printed_from (Some s) (e ∷ next ∷ rest) ≡ printed_from (step s e) (next ∷ rest)
run_begun s e next sequence_ends mapping_ends of_sequence of_mapping h rest =
    run_step s e (next ∷ rest)
    (sym (ap (λ b. hollow_at e rest b mapping_ends) of_sequence
    ∙ ap (λ b. hollow_at e rest (is_sequence_end next) b) of_mapping) ∙ h rest)

-- what begins no collection is no empty one
not_hollow : (e : PlainEmit) → is_start e ≡ false → (rest : List PlainEmit) → hollow e rest ≡ None
not_hollow e h [] = refl
not_hollow emit_stream_start h (next ∷ rest) = refl
not_hollow emit_stream_end h (next ∷ rest) = refl
not_hollow emit_document_start h (next ∷ rest) = refl
not_hollow emit_document_end h (next ∷ rest) = refl
not_hollow (emit_scalar tag text style) h (next ∷ rest) = refl
not_hollow (emit_sequence_start tag) h (next ∷ rest) = absurd (cc)
not_hollow emit_sequence_end h (next ∷ rest) = refl
not_hollow (emit_mapping_start tag) h (next ∷ rest) = absurd (cc)
not_hollow emit_mapping_end h (next ∷ rest) = refl

pub run_one : (s : Laid) (e : PlainEmit) → is_start e ≡ false → (rest : List PlainEmit)
    → printed_from (Some s) (e ∷ rest) ≡ printed_from (step s e) rest
run_one s e h rest = run_step s e rest (not_hollow e h rest)

-- the last event
pub ends_by : (s new : Laid) (e : PlainEmit) (result : Result (Unit {0}) Stop) → Steps (step s e) new result
    → Ends (printed_from (Some s) (e ∷ [])) new result
ends_by s new e (Ok _) h = run_step s e [] refl ∙ ap (λ o. printed_from o []) h
ends_by s new e (Err OutOfPlace) h = run_step s e [] refl ∙ ap (λ o. printed_from o []) h
ends_by s new e (Err Memory) h = tt

-- what ends out of place has no text
pub ends_wrong : (whole : Option (List ℕ)) (new : Laid) (stop : Stop) → Ends {A = Unit {0}} whole new (Err stop)
    → stop ≡ OutOfPlace → whole ≡ None
ends_wrong whole new OutOfPlace h is = h
ends_wrong whole new Memory h is = absurd (cc)

stopped_by : {A : Type 0} (whole : List PlainEmit → Option (List ℕ)) (left : A → List PlainEmit) (wanted : Option Laid)
    (new : Laid) (after : List PlainEmit → List PlainEmit) (stop : Stop)
    → ((rest : List PlainEmit) → whole rest ≡ printed_from wanted (after rest))
    → Steps {A = Unit {0}} wanted new (Err stop) → Continues {A = A} whole left new (Err stop)
stopped_by whole left wanted new after OutOfPlace is steps =
    λ rest. is rest ∙ ap (λ o. printed_from o (after rest)) steps
stopped_by whole left wanted new after Memory is steps = tt

-- a refused step ends it
pub stopped_there : {A : Type 0} (whole : List PlainEmit → Option (List ℕ)) (left : A → List PlainEmit)
    (wanted : Option Laid) (new : Laid) (after : List PlainEmit → List PlainEmit) (stop : Stop) (result : Result A Stop)
    → ((rest : List PlainEmit) → whole rest ≡ printed_from wanted (after rest))
    → Steps {A = Unit {0}} wanted new (Err stop) → IsErrAnd result (λ given. given ≡ stop)
    → Continues whole left new result
stopped_there whole left wanted new after stop (Ok a) is steps given = absurd given
stopped_there whole left wanted new after stop (Err other) is steps given =
    stopped_by whole left wanted new after other is
    (subst (λ t. Steps {A = Unit {0}} wanted new (Err t)) (sym given) steps)

-- an event that is taken
pub goes_on : (taken : List PlainEmit) (count next : ℕ) (s new : Laid) (held left : List PlainEmit) (e : PlainEmit)
    → next ≤ suc count → StandsFor Going taken count s held
    → ((rest : List PlainEmit) → printed_from (Some s) (held ++ (e ∷ rest)) ≡ printed_from (Some new) (left ++ rest))
    → StandsFor Going (taken ++ e ∷ []) next new left
goes_on taken count next s new held left e small h is =
    let long : length (taken ++ e ∷ []) ≡ length taken + 1 = length-append taken (e ∷ []) in
    let before = h.0 in (
      omega (arith, long, before, small),
      λ rest. ap (printed_from (Some unbegun)) (append_assoc taken (e ∷ []) rest) ∙ (h.1 (e ∷ rest) ∙ is rest),
    )

-- an event that may not stand there
pub goes_wrong : (taken : List PlainEmit) (count place : ℕ) (s : Laid) (held : List PlainEmit) (e : PlainEmit)
    (whatever : ℕ) (new : Laid) (left : List PlainEmit)
    → place ≤ count → StandsFor Going taken count s held
    → ((rest : List PlainEmit) → printed_from (Some s) (held ++ (e ∷ rest)) ≡ None)
    → StandsFor (Wrong place) (taken ++ e ∷ []) whatever new left
goes_wrong taken count place s held e whatever new left small h is =
    let long : length (taken ++ e ∷ []) ≡ length taken + 1 = length-append taken (e ∷ []) in
    let before = h.0 in (
      omega (arith, long, before, small),
      λ rest. ap (printed_from (Some unbegun)) (append_assoc taken (e ∷ []) rest) ∙ (h.1 (e ∷ rest) ∙ is rest),
    )

-- an event behind one that is held back and may not stand there
pub wrong_behind : {E : Type 0} (result : Result (Unit {0}) E) (stop : Stop) (p after : Printing) (place : ℕ)
    (e : PlainEmit) (new : Laid)
    → p.progress ≡ Going → place ≤ p.count
    → Continues {A = Unit {0}} (λ rest. printed_from (Some (laid p.layout)) (held_events p.held ++ (e ∷ rest)))
    (λ _. e ∷ []) new (Err stop)
    → OnOk result ((stop ≡ OutOfPlace) × (after.progress ≡ Wrong place))
    → OnOk result ((taken : List PlainEmit) → HasTaken p taken → HasTaken after (taken ++ e ∷ []))
wrong_behind (Ok _) OutOfPlace p after place e new going small run stopped = λ taken h.
    subst (λ q. StandsFor q (taken ++ e ∷ []) after.count (laid after.layout) (held_events after.held)) (sym stopped.1)
    (goes_wrong taken p.count place (laid p.layout) (held_events p.held) e after.count (laid after.layout)
    (held_events after.held) small
    (subst (λ q. StandsFor q taken p.count (laid p.layout) (held_events p.held)) going h) run)
wrong_behind (Ok _) Memory p after place e new going small run stopped =
    let other : Memory ≡ OutOfPlace = stopped.0 in absurd (cc)
wrong_behind (Err _) stop p after place e new going small run stopped = tt

-- behind an event that may not stand where it does, all may come
pub stays_wrong : (taken : List PlainEmit) (place count : ℕ) (s : Laid) (held : List PlainEmit) (e : PlainEmit)
    → StandsFor (Wrong place) taken count s held → StandsFor (Wrong place) (taken ++ e ∷ []) count s held
stays_wrong taken place count s held e h =
    let long : length (taken ++ e ∷ []) ≡ length taken + 1 = length-append taken (e ∷ []) in
    let before = h.0 in (
      omega (arith, long, before),
      λ rest. ap (printed_from (Some unbegun)) (append_assoc taken (e ∷ []) rest) ∙ h.1 (e ∷ rest),
    )

-- what was taken is no stream where nothing more leads to a text
pub none_so : (taken : List PlainEmit) → ((rest : List PlainEmit) → printed_from (Some unbegun) (taken ++ rest) ≡ None)
    → IsEmitStream taken → ⊥
none_so taken h =
    no_stream taken (ap (printed_from (Some unbegun)) (sym (append-nil taken)) ∙ h [])

-- the text that what was taken leads to
pub text_so : (taken held : List PlainEmit) (s : Laid) (o : Option (List ℕ))
    → ((rest : List PlainEmit) → printed_from (Some unbegun) (taken ++ rest) ≡ printed_from (Some s) (held ++ rest))
    → printed_from (Some s) held ≡ o → printed_from (Some unbegun) taken ≡ o
text_so taken held s o h is =
    ap (printed_from (Some unbegun)) (sym (append-nil taken))
    ∙ (h [] ∙ (ap (printed_from (Some s)) (append-nil held) ∙ is))
