-- A document without the word of a merge key has no merge key.
use Rattle.std.proofs.Common.{◌≡◌, ◌∷◌, ◌&&◌, ◌||◌, ◌+◌, ℕ, suc, zero, List, [], Bool, true, false, None, refl}
use Rattle.std.specs.List.{list_any}
use Rattle.yaml_base.specs.DocEventView.{doc_event_of, marked_events_of}
use Rattle.yaml_base.specs.PlainDocEvent.{PlainDocEvent, alias_to}
use Rattle.yaml_base.specs.Position.{Position}
use Rattle.yaml_base.specs.declared.doc_event.DocEvent.{DocEvent}
use Rattle.yaml_base.specs.declared.open.Open.{Open}
use Rattle.yaml_merge.specs.MergeKeys.{awaits_key, first_key_from, first_merge_key, is_merge_node, is_merge_word}
use Rattle.yaml_merge.specs.MergeKeys.{is_merge_word_at, open_behind}

-- whether an event is the word of a merge key
abbrev pub has_word : DocEvent × Position → Bool
has_word e = is_merge_word (doc_event_of e.0)

left_false : (a b : Bool) → (a || b) ≡ false → a ≡ false
left_false false b h = refl
left_false true b h = h

right_false : (a b : Bool) → (a || b) ≡ false → b ≡ false
right_false false b h = h
right_false true b h = absurd cc

and_false : (a b : Bool) → b ≡ false → (a && b) ≡ false
and_false true b h = h
and_false false b h = refl

not_there : (events : List (DocEvent × Position)) (place : ℕ) → list_any has_word events ≡ false
    → is_merge_word_at (marked_events_of events) place ≡ false
not_there [] place h = refl
not_there (e ∷ events) zero h = left_false (has_word e) (list_any has_word events) h
not_there (e ∷ events) (suc place) h =
    not_there events place (right_false (has_word e) (list_any has_word events) h)

no_node : (document : List (DocEvent × Position)) → list_any has_word document ≡ false → (e : PlainDocEvent)
    → is_merge_word e ≡ false → is_merge_node (marked_events_of document) e ≡ false
no_node document none (alias_to target) h = not_there document target none
no_node document none e h = h

no_key : (document : List (DocEvent × Position)) → list_any has_word document ≡ false → (place : ℕ)
    (opened : List Open) (events : List (DocEvent × Position)) → list_any has_word events ≡ false
    → first_key_from (marked_events_of document) place opened (marked_events_of events) ≡ None
no_key document none place opened [] h = refl
no_key document none place opened (e ∷ events) h =
    let here = and_false (awaits_key opened) (is_merge_node (marked_events_of document) (doc_event_of e.0))
    (no_node document none (doc_event_of e.0) (left_false (has_word e) (list_any has_word events) h)) in
    rw here (no_key document none (place + 1) (open_behind (doc_event_of e.0) opened) events
    (right_false (has_word e) (list_any has_word events) h))

-- a document without the word has no merge key
pub no_word : (events : List (DocEvent × Position)) → list_any has_word events ≡ false
    → first_merge_key (marked_events_of events) ≡ None
no_word events h = no_key events h 0 [] events h
