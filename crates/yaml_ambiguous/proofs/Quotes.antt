-- Events with quotes around their ambiguous texts come back as the events as they were may.
use Rattle.std.proofs.Common.{◌≡◌, ◌≢◌, List, [], ◌∷◌, Bool, true, false, refl, sym, ap, map, IsTrue}
use mathlib.Core.Bool.{true≢false}
use Rattle.yaml_base.specs.EmitEvents.{PlainEmit, emit_stream_start, emit_stream_end, emit_document_start}
use Rattle.yaml_base.specs.EmitEvents.{emit_document_end, emit_scalar, emit_sequence_start, emit_sequence_end}
use Rattle.yaml_base.specs.EmitEvents.{emit_mapping_start, emit_mapping_end}
use Rattle.yaml_base.specs.PlainEvent.{PlainEvent}
use Rattle.yaml_base.specs.Renders.{permits, Renders, RendersEvent}
use Rattle.yaml_base.specs.declared.emitter.AskedStyle.{AskedStyle}
use Rattle.yaml_base.specs.declared.emitter.AskedStyle.TheVariants as asked
use Rattle.yaml_base.specs.declared.event.ScalarStyle.{ScalarStyle}
use Rattle.yaml_ambiguous.specs.Ambiguous.{is_ambiguous}
use Rattle.yaml_ambiguous.specs.Quoting.{IsUnambiguous, quoting, unambiguous}

-- quotes that are asked for are a style that was permitted before
permitted : (ambiguous : Bool) (a : AskedStyle) (s : ScalarStyle) → IsTrue (permits (quoting ambiguous a) s)
    → IsTrue (permits a s)
permitted true asked.Any s p = refl
permitted true asked.Plain s p = p
permitted true asked.SingleQuoted s p = p
permitted true asked.Literal s p = p
permitted false a s p = p

one_comes_back : (e : PlainEmit) (read : PlainEvent) → RendersEvent (unambiguous e) read → RendersEvent e read
one_comes_back emit_stream_start read r = r
one_comes_back emit_stream_end read r = r
one_comes_back emit_document_start read r = r
one_comes_back emit_document_end read r = r
one_comes_back (emit_scalar tag text a) read (s, is_scalar, r) = (
  s,
  is_scalar,
  record {
    unanchored = r.unanchored;
    same_tag = r.same_tag;
    same_text = r.same_text;
    permitted = permitted (is_ambiguous text) a s.style r.permitted;
  },
)
one_comes_back (emit_sequence_start tag) read r = r
one_comes_back emit_sequence_end read r = r
one_comes_back (emit_mapping_start tag) read r = r
one_comes_back emit_mapping_end read r = r

pub come_back : (es : List PlainEmit) (read : List PlainEvent) → Renders (map unambiguous es) read → Renders es read
come_back [] [] r = r
come_back [] (x ∷ xs) r = r
come_back (e ∷ es) [] r = r
come_back (e ∷ es) (x ∷ xs) r = (one_comes_back e x r.0, come_back es xs r.1)

is_any : AskedStyle → Bool
is_any asked.Any = true
is_any asked.Plain = false
is_any asked.SingleQuoted = false
is_any asked.Literal = false

not_any : (ambiguous : Bool) (a : AskedStyle) → IsTrue ambiguous → quoting ambiguous a ≢ asked.Any
unfolding is_any
not_any true asked.Any h e = true≢false (sym (ap is_any e))
not_any true asked.Plain h e = true≢false (sym (ap is_any e))
not_any true asked.SingleQuoted h e = true≢false (sym (ap is_any e))
not_any true asked.Literal h e = true≢false (sym (ap is_any e))
not_any false a h e = true≢false (sym h)

pub is_unambiguous : (e : PlainEmit) → IsUnambiguous (unambiguous e)
is_unambiguous emit_stream_start = tt
is_unambiguous emit_stream_end = tt
is_unambiguous emit_document_start = tt
is_unambiguous emit_document_end = tt
is_unambiguous (emit_scalar tag text a) = not_any (is_ambiguous text) a
is_unambiguous (emit_sequence_start tag) = tt
is_unambiguous emit_sequence_end = tt
is_unambiguous (emit_mapping_start tag) = tt
is_unambiguous emit_mapping_end = tt
