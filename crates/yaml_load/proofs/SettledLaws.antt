-- Where the aliases of a draft have got their targets, its events are those of the document.
use Rattle.std.specs.Prelude.{◌≡◌, ◌+◌, ◌∷◌, ◌++◌, ◌<◌}
use Rattle.yaml_load.proofs.Words.{Marked, ℕ, List, [], length, take, refl, ap, arith, append-nil, append_assoc, Option}
use Rattle.yaml_load.proofs.Words.{Some, None, All, IsTrue, option_map, inl, inr, slice_get, take-append_seam, All-tail}
use Rattle.yaml_load.proofs.Words.{Position, PlainEvent, alias, Find, Input, becomes, known_events, unknown_mark}
use Rattle.yaml_load.proofs.Words.{PlainDocEvent, alias_to, AreTaken, IsTaken, Settled, Waiting, aimed, is_of_node}
use Rattle.yaml_load.proofs.Words.{settle, settled, Events, zero, suc, get_or, set, drop, sym, ◌∙◌, add-one, drop-cons}
use Rattle.yaml_load.proofs.Words.{drop-set-add, get_or-drop, doc_event_of, marked_events_of, DocEvent}
use Rattle.yaml_load.proofs.OpenEndsLaws.{one_longer}
use Rattle.std.proofs.lemmas.List.{length-drop}
use Rattle.yaml_base.specs.declared.doc_event.DocEvent.TheVariants as event

abbrev pub ToNodes : Input → Type 0
ToNodes seen = All (λ e. IsTrue (is_of_node e.0)) seen

-- what settled events are: those of the document, or, where an alias is unknown, its front is
abbrev pub IsSettled : Find → ℕ → Input → Marked → Settled → Type 0
IsSettled find place seen front (events, None) =
    (events ≡ front ++ known_events find place seen) × (unknown_mark find place seen ≡ None)
IsSettled find place seen front (events, Some at) =
    (take at events ≡ front ++ known_events find place seen)
    × (unknown_mark find place seen ≡ option_map (λ (e : PlainDocEvent × Position). e.1) (slice_get events at))

-- the element behind a list
pub get_behind : {X : Type 0} (xs ys : List X) (x : X) → slice_get (xs ++ x ∷ ys) (length xs) ≡ Some x
get_behind [] ys x = refl
get_behind (y ∷ xs) ys x = get_behind xs ys x

aimed_at : (front later : Marked) (e : PlainDocEvent × Position) (target : ℕ)
    → aimed (length front) target (front ++ e ∷ later) ≡ front ++ (alias_to target, e.1) ∷ later
aimed_at [] later e target = refl
aimed_at (x ∷ front) later e target = ap (λ es. x ∷ es) (aimed_at front later e target)

-- one event more that is known
settled_step : (find : Find) (place : ℕ) (seen : Input) (front : Marked) (e : PlainEvent) (mark : Position)
    (d : PlainDocEvent)
    (r : Settled) → becomes find place e ≡ Some d → IsSettled find (place + 1) seen (front ++ (d, mark) ∷ []) r
    → IsSettled find place ((e, mark) ∷ seen) front r
settled_step find place seen front e mark d (events, None) is h = rw is (rw append_assoc at h)
settled_step find place seen front e mark d (events, Some at) is h = rw is (rw append_assoc at h)

-- an alias that waits, by its target
settled_waiting : (find : Find) (seen : Input) (front later : Marked) (left : Waiting) (a : List ℕ) (mark : Position)
    (o : Option ℕ) (place : ℕ)
    → place ≡ length front → find a place ≡ o
    → ((d : PlainDocEvent) → IsSettled find (place + 1) seen (front ++ (d, mark) ∷ [])
    (settled find left ((front ++ (d, mark) ∷ []) ++ later)))
    → IsSettled find place ((alias a, mark) ∷ seen) front
    (settle o place (front ++ (alias_to 0, mark) ∷ later) (settled find left))
settled_waiting find seen front later left a mark None place at is next =
    rw (is, at, take-append_seam, append-nil, get_behind) (refl, refl)
settled_waiting find seen front later left a mark (Some target) place at is next =
    let es : aimed place target (front ++ (alias_to 0, mark) ∷ later)
    ≡ (front ++ (alias_to target, mark) ∷ []) ++ later = rw (at, aimed_at, append_assoc) in
    rw es (settled_step find place seen front (alias a) mark (alias_to target) _ (ap (option_map alias_to) is)
    (next (alias_to target)))

-- an event that is what it becomes
settled_known : (find : Find) (seen : Input) (front later : Marked) (left : Waiting) (e : PlainEvent) (mark : Position)
    (d : PlainDocEvent) (place : ℕ) → becomes find place e ≡ Some d
    → IsSettled find (place + 1) seen (front ++ (d, mark) ∷ [])
    (settled find left ((front ++ (d, mark) ∷ []) ++ later))
    → IsSettled find place ((e, mark) ∷ seen) front (settled find left (front ++ (d, mark) ∷ later))
settled_known find seen front later left e mark d place is next =
    settled_step find place seen front e mark d _ is (rw append_assoc at next)

-- one event, and those behind it
settled_one : (find : Find) (seen : Input) (front later : Marked) (left here : Waiting) (e : PlainEvent)
    (mark : Position) (d : PlainDocEvent) (place : ℕ)
    → place ≡ length front → IsTrue (is_of_node e) → IsTaken find place e d here
    → ((d : PlainDocEvent) → IsSettled find (place + 1) seen (front ++ (d, mark) ∷ [])
    (settled find left ((front ++ (d, mark) ∷ []) ++ later)))
    → IsSettled find place ((e, mark) ∷ seen) front (settled find (here ++ left) (front ++ (d, mark) ∷ later))
settled_one find seen front later left here (alias a) mark d place at node (inl w) next =
    rw (w.0, w.1) (settled_waiting find seen front later left a mark (find a place) place at refl next)
settled_one find seen front later left here (alias a) mark d place at node (inr k) next =
    rw k.1 (settled_known find seen front later left (alias a) mark d place k.0 (next d))
settled_one find seen front later left here e mark d place at node is next =
    rw is.1 (settled_known find seen front later left e mark d place (cc) (next d))

pub nodes_left : (e : PlainEvent × Position) (seen : Input) → ToNodes (e ∷ seen) → ToNodes seen
nodes_left e seen nodes = All-tail (λ (x : PlainEvent × Position). IsTrue (is_of_node x.0)) e seen nodes

-- the events from a place on
settled_from : (find : Find) (seen : Input) (place : ℕ) (front events : Marked) (waiting : Waiting)
    → place ≡ length front → ToNodes seen → AreTaken find place seen events waiting
    → IsSettled find place seen front (settled find waiting (front ++ events))
settled_from find [] place front events waiting at nodes (none, empty) = rw (none, empty) (refl, refl)
settled_from find (e ∷ seen) place front events waiting at nodes (d, here, later, left, is, rest, es, ws) =
    rw (es, ws) (settled_one find seen front later left here e.0 e.1 d place at (nodes 0 e (omega arith)) is
    (λ d'. settled_from find seen (place + 1) (front ++ (d', e.1) ∷ []) later left
    (omega (arith, at, one_longer front (d', e.1))) (nodes_left e seen nodes) rest))

-- the events of a document
pub settled_whole : (find : Find) (seen : Input) (events now : Marked) (waiting : Waiting) (o : Option ℕ)
    → ToNodes seen → AreTaken find 0 seen events waiting → settled find waiting events ≡ (now, o)
    → IsSettled find 0 seen [] (now, o)
settled_whole find seen events now waiting o nodes taken is =
    rw is at (settled_from find seen 0 [] events waiting refl nodes taken)

-- an event that is set at a place
aimed_set : (events : Events) (place target : ℕ) (y : DocEvent × Position) → place < length events → y
    ≡ get_or events place y
    → marked_events_of (set events place (event.Alias target, y.1)) ≡ aimed place target (marked_events_of events)
aimed_set [] place target y l is = absurd (omega arith)
aimed_set (x ∷ events) zero target y l is =
    ap (λ (z : DocEvent × Position). (alias_to target, z.1) ∷ marked_events_of events) is
aimed_set (x ∷ events) (suc place) target y l is =
    ap (λ es. (doc_event_of x.0, x.1) ∷ es) (aimed_set events place target y (omega arith) is)

pub aimed_behind : (events : Events) (from place target : ℕ) (y : DocEvent × Position) → from + place < length events
    → y ≡ get_or events (from + place) y
    → marked_events_of (drop from (set events (from + place) (event.Alias target, y.1)))
    ≡ aimed place target (marked_events_of (drop from events))
aimed_behind events from place target y l is =
    rw drop-set-add (aimed_set (drop from events) place target y (omega (arith, length-drop from events))
    (is ∙ sym (get_or-drop from events place y)))

-- the aliases from one on
aliases_from : (aliases : List (List ℕ × ℕ)) (i : ℕ) (x : List ℕ × ℕ) → i < length aliases → x ≡ get_or aliases i x
    → drop i aliases ≡ x ∷ drop (i + 1) aliases
aliases_from aliases i x l is = rw (drop-cons aliases i x l, ← is, ← add-one)

-- the next alias is known
pub settled_more : (find : Find) (aliases : List (List ℕ × ℕ)) (i : ℕ) (x : List ℕ × ℕ) → i < length aliases
    → x ≡ get_or aliases i x → (target : ℕ) (old new : Marked) (all : Settled) → Some target ≡ find x.0 x.1
    → new ≡ aimed x.1 target old
    → settled find (drop i aliases) old ≡ all → settled find (drop (i + 1) aliases) new ≡ all
settled_more find aliases i x l is target old new all found are h =
    rw (are) (rw (aliases_from aliases i x l is, ← found) at h)
