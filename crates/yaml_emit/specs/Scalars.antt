-- What a scalar is printed as.
use Rattle.std.specs.Prelude.{ℕ, Bool, List}
use Rattle.yaml_base.specs.declared.emitter.AskedStyle.{AskedStyle}
use Rattle.yaml_emit.specs.PrintedTexts.{double_quoted, literal, single_quoted}
use Rattle.yaml_emit.specs.Styles.{chosen_style}
use Rattle.yaml_emit.specs.declared.style.Style.{Style}
use Rattle.yaml_emit.specs.declared.style.Style.TheVariants.{Plain, SingleQuoted, DoubleQuoted, Literal}

-- the text in a style, whose further lines stand in so far
abbrev pub in_style : (indent : ℕ) → Style → List ℕ → List ℕ
in_style indent Plain text = text
in_style indent SingleQuoted text = single_quoted indent text
in_style indent DoubleQuoted text = double_quoted text
in_style indent Literal text = literal indent text

-- the scalar of a text for which a style is asked, as a key in a line or not
abbrev pub styled_scalar : (indent : ℕ) → AskedStyle → (key : Bool) → List ℕ → List ℕ
styled_scalar indent asked key text = in_style indent (chosen_style text asked key) text
