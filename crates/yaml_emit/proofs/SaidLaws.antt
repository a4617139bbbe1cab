-- What is printed of a scalar says its text.
use Rattle.std.proofs.Common.{◌≡◌, ℕ, Bool, true, false, not, ◌&&◌, ◌==◌, List, length, refl}
use Rattle.std.proofs.lemmas.Bool.{and_parts}
use Rattle.std.specs.List.{flat_map}
use Rattle.std.specs.Prelude.{if◌then◌else◌}
use Rattle.std.specs.Str.{IsUtf8, chars}
use Rattle.yaml_base.specs.declared.emitter.AskedStyle.{AskedStyle}
use Rattle.yaml_base.specs.declared.emitter.AskedStyle.TheVariants as asked
use Rattle.yaml_emit.specs.PrintedTexts.{escaped_character, single_rest}
use Rattle.yaml_emit.specs.Says.{Says}
use Rattle.yaml_emit.specs.Scalars.{in_style}
use Rattle.yaml_emit.specs.Styles.{chosen_style, fits_block, fits_plain, fits_single_quotes, plain_or_quotes}
use Rattle.yaml_emit.specs.Styles.{quotes_of}
use Rattle.yaml_emit.specs.declared.style.Style.{Style}
use Rattle.yaml_emit.specs.declared.style.Style.TheVariants.{Plain, SingleQuoted, DoubleQuoted, Literal}
use Rattle.yaml_emit.proofs.ByItself.{one_line-IsOneLine, printable_has_no_break}
use Rattle.yaml_emit.proofs.DoubledLaws.{undoubled-printed}
use Rattle.yaml_emit.proofs.EscapeLaws.{unescaped-printed}

module _ (indent : ℕ) (text : List ℕ) (u : IsUtf8 text) where
  abbrev Said : Style → Type 0
  Said style = Says style (in_style indent style text) text

  one_of : (b : Bool) (one other : Style) → (b ≡ true → Said one) → Said other → Said (if b then one else other)
  one_of true one other h g = h refl
  one_of false one other h g = g

  double : Said DoubleQuoted
  double = (flat_map escaped_character (chars text), refl, unescaped-printed text u)

  single : Said SingleQuoted
  single alone = (single_rest indent false (chars text), refl, undoubled-printed indent text u alone)

  quotes : Said (quotes_of text)
  quotes = one_of (fits_single_quotes text) SingleQuoted DoubleQuoted (λ fits. single) double

  plain : fits_plain text ≡ true → Said Plain
  plain fits = (refl, one_line-IsOneLine text u (printable_has_no_break (chars text) (and_parts _ _ fits).1))

  any : (key : Bool) → Said (plain_or_quotes text key)
  any key = one_of (fits_plain text && not (key && length text == 0)) Plain (quotes_of text)
      (λ both. plain (and_parts _ _ both).0) quotes

  -- in each style that may be chosen
  pub says : (asked_for : AskedStyle) (key : Bool) → Said (chosen_style text asked_for key)
  says asked.Any key = any key
  says asked.Plain key = any key
  says asked.SingleQuoted key = quotes
  says asked.Literal key = one_of (not key && fits_block text) Literal DoubleQuoted (λ fits. tt) double
