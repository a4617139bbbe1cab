-- How an emitter's text stands to the events that it has taken.
use Rattle.std.specs.Prelude.{◌≡◌, ◌≤◌, ℕ, List, [], ◌∷◌, ◌++◌, length, map, Option, None, Some, Bool, true, false}
use Rattle.std.specs.Prelude.{Result, Ok, Err}
use Rattle.yaml_base.specs.EmitEvents.{PlainEmit, emit_sequence_start, emit_mapping_start, emit_of}
use Rattle.yaml_base.specs.declared.emitter.EmitEvent.{EmitEvent}
use Rattle.yaml_emit.specs.LayoutMachine.{Laid, laid, printed_from, unbegun}
use Rattle.yaml_emit.specs.declared.emitter.Progress.{Progress}
use Rattle.yaml_emit.specs.declared.emitter.Progress.TheVariants.{Going, Wrong, Short}
use Rattle.yaml_emit.specs.declared.emitter.Printing.{Printing}
use Rattle.yaml_emit.specs.declared.stop.Stop.{Stop}
use Rattle.yaml_emit.specs.declared.stop.Stop.TheVariants.{OutOfPlace, Memory}

-- the event is the start of a collection
abbrev pub is_start : PlainEmit → Bool
is_start (emit_sequence_start tag) = true
is_start (emit_mapping_start tag) = true
is_start _ = false

-- a copy of the event, if it is the start of a collection
abbrev pub IsCopiedStart : PlainEmit → Option EmitEvent → Type 0
IsCopiedStart e None = is_start e ≡ false
IsCopiedStart e (Some copy) = emit_of copy ≡ e

-- the event that is held back, if there is one
abbrev pub held_events : Option EmitEvent → List PlainEmit
held_events None = []
held_events (Some event) = emit_of event ∷ []

-- the event, unless it was taken
abbrev pub left_unless : (taken : Bool) → PlainEmit → List PlainEmit
left_unless true e = []
left_unless false e = e ∷ []

-- Whatever follows, the text of all is what is left, with what follows, leads to. Or an event may not stand where it
-- does, and there is no such text; or memory runs out.
abbrev pub Continues : {A : Type 0} → (whole : List PlainEmit → Option (List ℕ)) → (left : A → List PlainEmit) → Laid
    → Result A Stop → Type 0
Continues whole left new (Ok a) = (rest : List PlainEmit) → whole rest ≡ printed_from (Some new) (left a ++ rest)
Continues whole left new (Err OutOfPlace) = (rest : List PlainEmit) → whole rest ≡ None
Continues whole left new (Err Memory) = Unit {0}

-- This is the text where nothing follows. Or an event may not stand where it does, or memory runs out.
abbrev pub Ends : {A : Type 0} → (whole : Option (List ℕ)) → Laid → Result A Stop → Type 0
Ends whole new (Ok _) = whole ≡ printed_from (Some new) []
Ends whole new (Err OutOfPlace) = whole ≡ None
Ends whole new (Err Memory) = Unit {0}

-- The text so far, and the event that is held back, stand for what was taken: whatever follows, both lead to one text.
-- Or what was taken begins no stream, or memory ran out.
abbrev pub StandsFor : Progress → (taken : List PlainEmit) → (count : ℕ) → Laid → (held : List PlainEmit) → Type 0
StandsFor Going taken count s held = (count ≤ length taken)
    × ((rest : List PlainEmit) → printed_from (Some unbegun) (taken ++ rest) ≡ printed_from (Some s) (held ++ rest))
StandsFor (Wrong place) taken count s held = (place ≤ length taken)
    × ((rest : List PlainEmit) → printed_from (Some unbegun) (taken ++ rest) ≡ None)
StandsFor Short taken count s held = Unit {0}

-- memory ran out
abbrev pub is_short : Progress → Bool
is_short Going = false
is_short (Wrong place) = false
is_short Short = true

-- the same of all that an emitter holds
abbrev pub HasTaken : Printing → List PlainEmit → Type 0
HasTaken p taken = StandsFor p.progress taken p.count (laid p.layout) (held_events p.held)
