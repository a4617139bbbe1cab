-- What is asked of an emitter so that no ambiguous text stands without quotes.
use Rattle.std.specs.Prelude.{◌≡◌, Bool, true, false, if◌then◌else◌, IsTrue, ◌≢◌}
use Rattle.yaml_base.specs.EmitEvents.{PlainEmit, emit_scalar}
use Rattle.yaml_base.specs.declared.emitter.AskedStyle.{AskedStyle}
use Rattle.yaml_base.specs.declared.emitter.AskedStyle.TheVariants as asked
use Rattle.yaml_ambiguous.specs.Ambiguous.{is_ambiguous}

-- the style for a text that may stand in this one: quotes in place of any style, if it is ambiguous
abbrev pub quoting : (ambiguous : Bool) → AskedStyle → AskedStyle
quoting true asked.Any = asked.SingleQuoted
quoting true style = style
quoting false style = style

-- the same event, with quotes asked for where it is an ambiguous text that may stand in any style
abbrev pub unambiguous : PlainEmit → PlainEmit
unambiguous (emit_scalar tag text style) = emit_scalar tag text (quoting (is_ambiguous text) style)
unambiguous event = event

-- no ambiguous text is asked for in any style
abbrev pub IsUnambiguous : PlainEmit → Type 0
IsUnambiguous (emit_scalar tag text style) = IsTrue (is_ambiguous text) → style ≢ asked.Any
IsUnambiguous event = Unit {0}
