-- Which states are within a document, in front of each event and behind it.
use Rattle.std.specs.Prelude.{◌≡◌, ◌∷◌}
use Rattle.yaml_load.proofs.Words.{List, [], refl, sym, ◌∙◌, ap, Some, Bool, true, false, PlainEvent, stream_start}
use Rattle.yaml_load.proofs.Words.{stream_end, document_start, document_end, alias, scalar, sequence_start}
use Rattle.yaml_load.proofs.Words.{sequence_end, mapping_start, mapping_end, State, before_stream, between_documents}
use Rattle.yaml_load.proofs.Words.{before_root, within, after_stream, begins, next_state, is_done, is_open, phase_state}
use Rattle.yaml_load.proofs.Words.{Phase, Open, is_inside, open_before, open_behind, Before, After}
use Rattle.yaml_base.specs.declared.open.Open.TheVariants.{Sequence, Key, Value}

abbrev Turns : PlainEvent → State → State → Type 0
Turns e s t = (is_inside s ≡ open_before e) × (is_inside t ≡ open_behind e)

-- the state that a state leads to
is_next : (s t : State) → Some s ≡ Some t → is_inside t ≡ is_inside s
is_next s t h = let e : s ≡ t = cc in ap is_inside (sym e)

begun : (opened : List Open) (e : PlainEvent) (t : State) → begins opened e ≡ Some t
    → (open_before e ≡ true) × (open_behind e ≡ true) × (is_inside t ≡ true)
begun opened (alias a) t h = (refl, refl, is_next (within opened) t h)
begun opened (scalar s) t h = (refl, refl, is_next (within opened) t h)
begun opened (sequence_start a g) t h = (refl, refl, is_next (within (Sequence ∷ opened)) t h)
begun opened (mapping_start a g) t h = (refl, refl, is_next (within (Key ∷ opened)) t h)
begun opened _ t h = absurd cc

inside_begun : (s : State) (opened : List Open) (e : PlainEvent) (t : State) → is_inside s ≡ true → begins opened e
    ≡ Some t → Turns e s t
inside_begun s opened e t i h = let b = begun opened e t h in (i ∙ sym b.0, b.2 ∙ sym b.1)

pub turns : (s : State) (e : PlainEvent) (t : State) → next_state s e ≡ Some t → Turns e s t
turns before_stream stream_start t h = (refl, is_next between_documents t h)
turns before_stream _ t h = absurd cc
turns between_documents stream_end t h = (refl, is_next after_stream t h)
turns between_documents document_start t h = (refl, is_next before_root t h)
turns between_documents _ t h = absurd cc
turns before_root e t h = inside_begun before_root [] e t refl h
turns (within []) document_end t h = (refl, is_next between_documents t h)
turns (within []) _ t h = absurd cc
turns (within (Sequence ∷ o)) sequence_end t h = (refl, is_next (within o) t h)
turns (within (Sequence ∷ o)) e t h = inside_begun (within (Sequence ∷ o)) (Sequence ∷ o) e t refl h
turns (within (Key ∷ o)) mapping_end t h = (refl, is_next (within o) t h)
turns (within (Key ∷ o)) e t h = inside_begun (within (Key ∷ o)) (Value ∷ o) e t refl h
turns (within (Value ∷ o)) e t h = inside_begun (within (Value ∷ o)) (Key ∷ o) e t refl h
turns after_stream _ t h = absurd cc

-- a phase within a document
pub inside_phase : (p : Phase) (opened : List Open) → is_inside (phase_state p opened) ≡ is_open p
inside_phase Before opened = refl
inside_phase _ opened = refl

-- where the events are right, a document is open only where there is a fault
pub open_faulted : (p : Phase) (faulted : Bool) → (is_done p ≡ faulted → ⊥) → is_open p ≡ true → faulted ≡ true
open_faulted p true other h = refl
open_faulted After false other h = absurd cc
open_faulted _ false other h = absurd (other refl)
