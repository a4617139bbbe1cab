-- A line that begins with a word for an event is no other event.
use Rattle.std.specs.Prelude.{codes, Option, ◌==◌, false}
use Rattle.std.proofs.lemmas.Bool.{eqb-false}
use Rattle.std.proofs.Common.{◌≡◌, ℕ, List, [], ◌++◌, sym, ap, ◌∙◌, subst, get_or, drop, refl}
use Rattle.yaml_base.specs.PlainEvent.{PlainScalar, PlainEvent, stream_start, stream_end, document_start}
use Rattle.yaml_base.specs.PlainEvent.{document_end, alias, scalar, sequence_start, sequence_end, mapping_start}
use Rattle.yaml_base.specs.PlainEvent.{mapping_end}
use Rattle.yaml_lines.specs.EventText.{HasProperties, IsScalarText, IsEventText}

-- texts with unlike bytes at a place are not the same
pub unlike : {a b : List ℕ} (k : ℕ) → a ≡ b → (get_or a k 0 == get_or b k 0) ≡ false → ⊥
unlike {a} {b} k e f = eqb-false (get_or a k 0) (get_or b k 0) f (ap (λ (l : List ℕ). get_or l k 0) e)

-- where no scalar stands behind the word for one, the line is no event
pub no_scalar_text : (text rest : List ℕ) → text ≡ codes "=VAL" ++ rest
    → ((value : PlainScalar) → ¬ (IsScalarText rest value)) → (event : PlainEvent) → ¬ (IsEventText text event)
no_scalar_text text rest e none stream_start h = unlike 0 (sym e ∙ h) refl
no_scalar_text text rest e none stream_end h = unlike 0 (sym e ∙ h) refl
no_scalar_text text rest e none document_start h = unlike 0 (sym e ∙ h) refl
no_scalar_text text rest e none document_end h = unlike 0 (sym e ∙ h) refl
no_scalar_text text rest e none (alias anchor) h = unlike 1 (sym e ∙ h.1) refl
no_scalar_text text rest e none (scalar found) h =
    none found (subst (λ t. IsScalarText t found) (ap (λ (l : List ℕ). drop 4 l) (sym h.1 ∙ e)) h.2)
no_scalar_text text rest e none (sequence_start anchor tag) h = unlike 0 (sym e ∙ h.1) refl
no_scalar_text text rest e none sequence_end h = unlike 0 (sym e ∙ h) refl
no_scalar_text text rest e none (mapping_start anchor tag) h = unlike 0 (sym e ∙ h.1) refl
no_scalar_text text rest e none mapping_end h = unlike 0 (sym e ∙ h) refl

-- the same of the start of a sequence
pub no_sequence_text : (text rest : List ℕ) → text ≡ codes "+SEQ" ++ rest
    → ((anchor tag : Option (List ℕ)) → ¬ (HasProperties rest anchor tag [])) → (event : PlainEvent)
    → ¬ (IsEventText text event)
no_sequence_text text rest e none stream_start h = unlike 2 (sym e ∙ h) refl
no_sequence_text text rest e none stream_end h = unlike 0 (sym e ∙ h) refl
no_sequence_text text rest e none document_start h = unlike 1 (sym e ∙ h) refl
no_sequence_text text rest e none document_end h = unlike 0 (sym e ∙ h) refl
no_sequence_text text rest e none (alias anchor) h = unlike 0 (sym e ∙ h.1) refl
no_sequence_text text rest e none (scalar found) h = unlike 0 (sym e ∙ h.1) refl
no_sequence_text text rest e none (sequence_start anchor tag) h =
    none anchor tag (subst (λ t. HasProperties t anchor tag []) (ap (λ (l : List ℕ). drop 4 l) (sym h.1 ∙ e)) h.2)
no_sequence_text text rest e none sequence_end h = unlike 0 (sym e ∙ h) refl
no_sequence_text text rest e none (mapping_start anchor tag) h = unlike 1 (sym e ∙ h.1) refl
no_sequence_text text rest e none mapping_end h = unlike 0 (sym e ∙ h) refl

-- the same of the start of a mapping
pub no_mapping_text : (text rest : List ℕ) → text ≡ codes "+MAP" ++ rest
    → ((anchor tag : Option (List ℕ)) → ¬ (HasProperties rest anchor tag [])) → (event : PlainEvent)
    → ¬ (IsEventText text event)
no_mapping_text text rest e none stream_start h = unlike 1 (sym e ∙ h) refl
no_mapping_text text rest e none stream_end h = unlike 0 (sym e ∙ h) refl
no_mapping_text text rest e none document_start h = unlike 1 (sym e ∙ h) refl
no_mapping_text text rest e none document_end h = unlike 0 (sym e ∙ h) refl
no_mapping_text text rest e none (alias anchor) h = unlike 0 (sym e ∙ h.1) refl
no_mapping_text text rest e none (scalar found) h = unlike 0 (sym e ∙ h.1) refl
no_mapping_text text rest e none (sequence_start anchor tag) h = unlike 1 (sym e ∙ h.1) refl
no_mapping_text text rest e none sequence_end h = unlike 0 (sym e ∙ h) refl
no_mapping_text text rest e none (mapping_start anchor tag) h =
    none anchor tag (subst (λ t. HasProperties t anchor tag []) (ap (λ (l : List ℕ). drop 4 l) (sym h.1 ∙ e)) h.2)
no_mapping_text text rest e none mapping_end h = unlike 0 (sym e ∙ h) refl

-- a line that begins with the word for a fault is no event
pub no_event_at_fault : (text rest : List ℕ) → text ≡ codes "!ERR " ++ rest → (event : PlainEvent)
    → ¬ (IsEventText text event)
no_event_at_fault text rest e stream_start h = unlike 0 (sym e ∙ h) refl
no_event_at_fault text rest e stream_end h = unlike 0 (sym e ∙ h) refl
no_event_at_fault text rest e document_start h = unlike 0 (sym e ∙ h) refl
no_event_at_fault text rest e document_end h = unlike 0 (sym e ∙ h) refl
no_event_at_fault text rest e (alias anchor) h = unlike 0 (sym e ∙ h.1) refl
no_event_at_fault text rest e (scalar found) h = unlike 0 (sym e ∙ h.1) refl
no_event_at_fault text rest e (sequence_start anchor tag) h = unlike 0 (sym e ∙ h.1) refl
no_event_at_fault text rest e sequence_end h = unlike 0 (sym e ∙ h) refl
no_event_at_fault text rest e (mapping_start anchor tag) h = unlike 0 (sym e ∙ h.1) refl
no_event_at_fault text rest e mapping_end h = unlike 0 (sym e ∙ h) refl
