-- Events that a loader takes as they are read.
use Rattle.std.proofs.Common.{◌≡◌, List, [], ◌∷◌, ◌++◌, refl, sym, ◌∙◌, ap, append_assoc, false, true, None}
use Rattle.std.proofs.Common.{Option, Some, inl, inr, ◌||◌}
use Rattle.std.proofs.lemmas.Bool.{cases_Bool}
use Rattle.std.proofs.lemmas.List.{map-append}
use Rattle.yaml_base.proofs.StreamMachineLaws.{run_append}
use Rattle.yaml_documents.proofs.StartLaws.{unended_tail}
use Rattle.yaml_documents.proofs.StateLaws.{begins_alike}
use Rattle.yaml_documents.specs.inner.Filling.{Agree, EndsAt, ReadsOn}
use Rattle.yaml_load.proofs.Words.{Event, Input, IsBeginning, IsWrongNext, PlainEvent, Position, alias, before_stream}
use Rattle.yaml_load.proofs.Words.{document_end, document_start, event_of, events_in, is_document_end, is_ended}
use Rattle.yaml_load.proofs.Words.{mapping_end, mapping_start, plain_events, plain_marked, run, scalar, sequence_end}
use Rattle.yaml_load.proofs.Words.{sequence_start, stream_end, stream_start}

-- an event that events go on with as a stream is not refused
pub never_refused : (taken : Input) (e : PlainEvent) → IsBeginning (events_in taken ++ e ∷ [])
    → IsWrongNext (events_in taken) e → ⊥
never_refused taken e begins wrong = wrong.1 begins

-- the same event more leads to one state too
run_more : (given given_now : List (Event × Position)) (taken : Input) (x : Event × Position) → Agree given taken
    → given_now ≡ given ++ x ∷ []
    → run (Some before_stream) (events_in taken ++ event_of x.0 ∷ [])
    ≡ run (Some before_stream) (plain_events given_now)
run_more given given_now taken x agree is =
    let e = event_of x.0 in
    run_append (events_in taken) (e ∷ []) (Some before_stream) ∙ ap (λ o. run o (e ∷ [])) agree
    ∙ sym (run_append (plain_events given) (e ∷ []) (Some before_stream))
    ∙ ap (run (Some before_stream)) (sym (ap plain_events is
    ∙ map-append (λ (y : Event × Position). event_of y.0) given (x ∷ [])))

pub read_never_refused : (given given_now : List (Event × Position)) (taken : Input) (x : Event × Position)
    → Agree given taken → given_now ≡ given ++ x ∷ [] → IsBeginning (plain_events given_now)
    → IsWrongNext (events_in taken) (event_of x.0) → ⊥
read_never_refused given given_now taken x agree is begins wrong =
    never_refused taken (event_of x.0)
    (begins_alike (events_in taken ++ event_of x.0 ∷ []) (plain_events given_now)
    (run_more given given_now taken x agree is) begins) wrong

-- one event more was read
pub reads_more : (given : List (Event × Position)) (taken : Input) (given_now given_next : List (Event × Position))
    (taken_now taken_next : Input) (x : Event × Position) (end : Option Position)
    (on : ReadsOn given taken given_now taken_now None) → given_next ≡ given_now ++ x ∷ []
    → taken_next ≡ taken_now ++ (event_of x.0, x.1) ∷ [] → EndsAt end (on.more ++ (event_of x.0, x.1) ∷ [])
    → ReadsOn given taken given_next taken_next end
reads_more given taken given_now given_next taken_now taken_next x end on is takes ends =
    let e : PlainEvent × Position = (event_of x.0, x.1) in
    record {
      more = on.more ++ e ∷ [];
      given_more = ap plain_marked is ∙ map-append (λ (y : Event × Position). (event_of y.0, y.1)) given_now (x ∷ [])
          ∙ ap (λ (es : Input). es ++ e ∷ []) on.given_more ∙ append_assoc (plain_marked given) on.more (e ∷ []);
      taken_more = takes ∙ ap (λ (es : Input). es ++ e ∷ []) on.taken_more ∙ append_assoc taken on.more (e ∷ []);
      agree = ap (λ (es : Input). run (Some before_stream) (events_in es)) takes
          ∙ ap (run (Some before_stream)) (map-append (λ (y : PlainEvent × Position). y.0) taken_now (e ∷ []))
          ∙ run_more given_now given_next taken_now x on.agree is;
      ends = ends;
    }

-- no document ends with an event that is no end of one
pub ends_not : (more : Input) (x : PlainEvent × Position) → is_ended more ≡ false → is_document_end x.0 ≡ false
    → is_ended (more ++ x ∷ []) ≡ false
ends_not [] x h other = ap (λ b. b || false) other
ends_not (e ∷ more) x h other =
    elim (cases_Bool (is_document_end e.0)) [
      | inl yes_ ↦ absurd (let t = ap (λ b. b || is_ended more) yes_ in cc)
      | inr no_ ↦ simp no_ (ends_not more x (unended_tail e more h) other)
    ]

end_only : (e : PlainEvent) → is_document_end e ≡ true → e ≡ document_end
end_only stream_start h = absurd (cc)
end_only stream_end h = absurd (cc)
end_only document_start h = absurd (cc)
end_only document_end h = refl
end_only (alias a) h = absurd (cc)
end_only (scalar s) h = absurd (cc)
end_only (sequence_start a g) h = absurd (cc)
end_only sequence_end h = absurd (cc)
end_only (mapping_start a g) h = absurd (cc)
end_only mapping_end h = absurd (cc)

-- one ends with an event that is one
pub ends_now : (more : Input) (e : PlainEvent) (mark : Position) → is_ended more ≡ false → is_document_end e ≡ true
    → EndsAt (Some mark) (more ++ (e, mark) ∷ [])
ends_now more e mark h ends = (more, h, ap (λ k. more ++ (k, mark) ∷ []) (end_only e ends))
