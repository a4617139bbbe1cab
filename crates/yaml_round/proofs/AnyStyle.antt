-- Written events come back in each permitted choice of styles, with any sources.
use Rattle.std.proofs.Common.{◌≡◌, ◌≢◌, ℕ, suc, List, [], ◌∷◌, Option, true, refl, sym, subst}
use Rattle.yaml_base.specs.EmitEvents.{PlainEmit, emit_stream_start, emit_stream_end, emit_document_start}
use Rattle.yaml_base.specs.EmitEvents.{emit_document_end, emit_scalar, emit_sequence_start, emit_sequence_end}
use Rattle.yaml_base.specs.EmitEvents.{emit_mapping_start, emit_mapping_end}
use Rattle.yaml_base.specs.Renders.{permits, Renders, RendersEvent}
use Rattle.yaml_base.specs.declared.emitter.AskedStyle.{AskedStyle}
use Rattle.yaml_base.specs.declared.emitter.AskedStyle.TheVariants as asked
use Rattle.yaml_base.specs.declared.event.ScalarStyle.{ScalarStyle}
use Rattle.yaml_base.specs.declared.event.ScalarStyle.TheVariants as style
use Rattle.yaml_round.specs.Rendered.{rendered, rendered_event}

quoted : (s : ScalarStyle) → s ≢ style.Plain → permits asked.SingleQuoted s ≡ true
quoted style.Plain differs = absurd (differs refl)
quoted style.SingleQuoted differs = refl
quoted style.DoubleQuoted differs = refl
quoted style.Literal differs = refl
quoted style.Folded differs = refl

block : (s : ScalarStyle) → s ≢ style.Plain → permits asked.Literal s ≡ true
block style.Plain differs = absurd (differs refl)
block style.SingleQuoted differs = refl
block style.DoubleQuoted differs = refl
block style.Literal differs = refl
block style.Folded differs = refl

module _ (choose : ℕ → AskedStyle → ScalarStyle) (source : ℕ → Option (List ℕ))
    (as_plain : (place : ℕ) → choose place asked.Plain ≡ style.Plain)
    (as_quoted : (place : ℕ) → choose place asked.SingleQuoted ≢ style.Plain)
    (as_block : (place : ℕ) → choose place asked.Literal ≢ style.Plain) where
  permitted : (place : ℕ) (a : AskedStyle) → permits a (choose place a) ≡ true
  permitted place asked.Any = refl
  permitted place asked.Plain = subst (λ s. permits asked.Plain s ≡ true) (sym (as_plain place)) refl
  permitted place asked.SingleQuoted = quoted (choose place asked.SingleQuoted) (as_quoted place)
  permitted place asked.Literal = block (choose place asked.Literal) (as_block place)

  one_renders : (place : ℕ) (e : PlainEmit) → RendersEvent e (rendered_event (choose place) (source place) e)
  one_renders place emit_stream_start = refl
  one_renders place emit_stream_end = refl
  one_renders place emit_document_start = refl
  one_renders place emit_document_end = refl
  one_renders place (emit_scalar tag text a) = (
    _,
    refl,
    record { unanchored = refl; same_tag = refl; same_text = refl; permitted = permitted place a },
  )
  one_renders place (emit_sequence_start tag) = refl
  one_renders place emit_sequence_end = refl
  one_renders place (emit_mapping_start tag) = refl
  one_renders place emit_mapping_end = refl

  pub renders : (place : ℕ) (es : List PlainEmit) → Renders es (rendered choose source place es)
  renders place [] = tt
  renders place (e ∷ es) = (one_renders place e, renders (suc place) es)
