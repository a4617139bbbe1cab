-- The style that is asked for a string, so that it reads back as one.
use Rattle.std.specs.Prelude.{ℕ, Bool, true, false, not, ◌==◌, ◌&&◌, if◌then◌else◌, List}
use Rattle.std.specs.List.{list_any}
use Rattle.yaml_base.specs.Floats.{has_leading_zero}
use Rattle.yaml_base.specs.Kinds.{kind_of}
use Rattle.yaml_base.specs.declared.emitter.AskedStyle.{AskedStyle}
use Rattle.yaml_base.specs.declared.emitter.AskedStyle.TheVariants.{Any, SingleQuoted, Literal}
use Rattle.yaml_base.specs.declared.resolver.kind.Kind.{Kind}
use Rattle.yaml_base.specs.declared.resolver.kind.Kind.TheVariants.{Str}

-- the kind is a string's
abbrev pub is_string : Kind → Bool
is_string Str = true
is_string _ = false

-- a block where the text has a line feed, quotes where it would be read as something else or as digits behind a zero
abbrev pub asked_style : List ℕ → AskedStyle
asked_style text =
    if list_any (λ c. c == 10) text then Literal
    else (if not (has_leading_zero text) && is_string (kind_of text) then Any else SingleQuoted)
