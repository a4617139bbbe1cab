-- What a printed scalar says, by the rules of YAML.
use Rattle.std.specs.Prelude.{◌≡◌, ℕ, false, List, [], ◌∷◌, ◌++◌, Option, Some}
use Rattle.yaml_base.specs.LineBreaks.{IsOneLine}
use Rattle.yaml_base.specs.QuotedLines.{unescaped, undoubled}
use Rattle.yaml_emit.specs.Styles.{has_break}
use Rattle.yaml_emit.specs.declared.style.Style.{Style}
use Rattle.yaml_emit.specs.declared.style.Style.TheVariants.{Plain, SingleQuoted, DoubleQuoted, Literal}

-- what is printed are two of these quotes, and what stands between them is read as the text
abbrev pub IsQuoted : (quote : ℕ) → (read : List ℕ → Option (List ℕ)) → (printed text : List ℕ) → Type 0
IsQuoted quote read printed text =
    (inside : List ℕ) × (printed ≡ quote ∷ (inside ++ quote ∷ [])) × (read inside ≡ Some text)

-- What is printed in a style says the text: plainly it is the text, on one line; between double quotes its escapes are
-- read, and between single quotes its doubled quotes, where the text has no line break. Of a literal block, and of a
-- text with line breaks between single quotes, nothing is said.
abbrev pub Says : Style → (printed text : List ℕ) → Type 0
Says Plain printed text = (printed ≡ text) × IsOneLine printed
Says SingleQuoted printed text = has_break text ≡ false → IsQuoted 39 undoubled printed text
Says DoubleQuoted printed text = IsQuoted 34 unescaped printed text
Says Literal printed text = Unit {0}
