-- Rendering event by event.
use Rattle.std.proofs.Common.{◌≡◌, ◌<◌, ◌+◌, ℕ, List, [], ◌∷◌, ◌++◌, length, take, get_or, map, refl, sym, ap, ◌∙◌}
use Rattle.std.proofs.lemmas.List.{map-append, take_more}
use Rattle.yaml_base.specs.EmitEvents.{PlainEmit, emit_of}
use Rattle.yaml_base.specs.MarkedEvents.{events_in, plain_marked}
use Rattle.yaml_base.specs.PlainEvent.{PlainEvent, event_of}
use Rattle.yaml_base.specs.Position.{Position}
use Rattle.yaml_base.specs.Renders.{Renders, RendersEvent}
use Rattle.yaml_base.specs.declared.emitter.EmitEvent.{EmitEvent}
use Rattle.yaml_base.specs.declared.event.Event.{Event}

-- one event more
renders_more : (es : List PlainEmit) (xs : List PlainEvent) (e : PlainEmit) (x : PlainEvent) → Renders es xs
    → RendersEvent e x → Renders (es ++ e ∷ []) (xs ++ x ∷ [])
renders_more [] [] e x h r = (r, tt)
renders_more (a ∷ es) (b ∷ xs) e x h r = (h.0, renders_more es xs e x h.1 r)
renders_more [] (b ∷ xs) e x h r = absurd h
renders_more (a ∷ es) [] e x h r = absurd h

-- the events so far and the next
next : (es : List EmitEvent) (i : ℕ) (e : EmitEvent) → i < length es → e ≡ get_or es i e
    → map emit_of (take (i + 1) es) ≡ map emit_of (take i es) ++ emit_of e ∷ []
next es i e less is =
    ap (map emit_of) (take_more es i e less ∙ ap (λ y. take i es ++ y ∷ []) (sym is))
    ∙ map-append emit_of (take i es) (e ∷ [])

added : (found : List (Event × Position)) (x : Event × Position)
    → events_in (plain_marked (found ++ x ∷ [])) ≡ events_in (plain_marked found) ++ event_of x.0 ∷ []
added [] x = refl
added (f ∷ found) x = ap (λ l. event_of f.0 ∷ l) (added found x)

-- what is rendered so far
abbrev pub IsRenderedTo : List EmitEvent → (i : ℕ) → List (Event × Position) → Type 0
IsRenderedTo es i found = Renders (map emit_of (take i es)) (events_in (plain_marked found))

pub rendered_more : (es : List EmitEvent) (i : ℕ) (e : EmitEvent) (found new : List (Event × Position))
    (x : Event × Position) → i < length es → e ≡ get_or es i e → new ≡ found ++ x ∷ []
    → RendersEvent (emit_of e) (event_of x.0) → IsRenderedTo es i found → IsRenderedTo es (i + 1) new
rendered_more es i e found new x less is pushed r h =
    rw (next es i e less is) (rw pushed (rw (added found x)
    (renders_more (map emit_of (take i es)) (events_in (plain_marked found)) (emit_of e) (event_of x.0) h r)))
