-- A line says one thing.
use Rattle.std.specs.Prelude.{codes}
use Rattle.std.proofs.Common.{◌≡◌, ℕ, List, ◌++◌, sym, ap, ◌∙◌, subst, drop}
use Rattle.yaml_base.specs.Position.{Position}
use Rattle.yaml_base.specs.PlainEvent.{PlainEvent}
use Rattle.yaml_base.specs.PlainFault.{PlainFault}
use Rattle.yaml_lines.specs.SpelledFault.{IsSpelledFault}
use Rattle.yaml_lines.specs.LineText.{Said, says_event, says_fault, IsSaid, IsLine}
use Rattle.yaml_lines.specs.Place.{IsMarked}
use Rattle.yaml_lines.proofs.PlaceLaws.{IsMarked-unique}
use Rattle.yaml_lines.proofs.WordLaws.{no_event_at_fault}

-- what begins with the word for a fault, with no fault behind it, says nothing
pub no_fault : (text rest : List ℕ) (mark : Position) → text ≡ codes "!ERR " ++ rest
    → ((fault : PlainFault) → ¬ (IsSpelledFault rest fault))
    → (said : Said) → ¬ (IsSaid text mark said)
no_fault text rest mark e none (says_event event at) h = no_event_at_fault text rest e event h.1
no_fault text rest mark e none (says_fault fault) h =
    none fault (subst (λ t. IsSpelledFault t fault) (ap (λ (l : List ℕ). drop 5 l) (sym h.2 ∙ e)) h.3)

-- a line says nothing where nothing stands behind its mark
pub no_line_behind : (line text : List ℕ) (mark : Position) → IsMarked line mark text
    → ((said : Said) → ¬ (IsSaid text mark said)) → (said : Said) → ¬ (IsLine line said)
no_line_behind line text mark m none said h =
    let u = IsMarked-unique line h.mark mark h.text text h.is_marked m in
    none said (subst (λ t. IsSaid t mark said) u.1 (subst (λ p. IsSaid h.text p said) u.0 h.is_said))

-- a line that says a fault says no event
pub fault_or_event : (line : List ℕ) (fault : PlainFault) (event : PlainEvent) (mark : Position)
    → IsLine line (says_fault fault) → IsLine line (says_event event mark) → ⊥
fault_or_event line fault event mark f e =
    no_event_at_fault e.text f.is_said.1 ((IsMarked-unique line e.mark f.mark e.text f.text e.is_marked f.is_marked).1
    ∙ f.is_said.2) event e.is_said.1
