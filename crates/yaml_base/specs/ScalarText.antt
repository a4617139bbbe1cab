-- The debug text of a scalar.
use Rattle.std.specs.Prelude.{ℕ, List, ◌++◌, codes, Option, None, Some}
use Rattle.yaml_base.specs.PlainEvent.{PlainScalar}
use Rattle.yaml_base.specs.Quoted.{quoted}
use Rattle.yaml_base.specs.declared.event.ScalarStyle.{ScalarStyle}
use Rattle.yaml_base.specs.declared.event.ScalarStyle.TheVariants.{Plain, SingleQuoted, DoubleQuoted, Literal, Folded}

-- a name that may be missing
abbrev pub name_text : Option (List ℕ) → List ℕ
name_text None = codes "None"
name_text (Some name) = codes "Some(" ++ (quoted name ++ codes ")")

-- the name of a style
abbrev pub style_text : ScalarStyle → List ℕ
style_text Plain = codes "Plain"
style_text SingleQuoted = codes "SingleQuoted"
style_text DoubleQuoted = codes "DoubleQuoted"
style_text Literal = codes "Literal"
style_text Folded = codes "Folded"

-- all but the slice of the source
abbrev pub scalar_text : PlainScalar → List ℕ
scalar_text s = codes "Scalar { anchor: " ++ (name_text s.anchor ++ (codes ", tag: " ++ (name_text s.tag
    ++ (codes ", value: " ++ (quoted s.text ++ (codes ", style: " ++ (style_text s.style ++ codes " }")))))))
