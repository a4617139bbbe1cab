-- What is known of a text by the style that was chosen for it.
use Rattle.std.proofs.Common.{◌≡◌, ℕ, Bool, true, false, not, ◌==◌, ◌&&◌, refl, List, length}
use Rattle.std.proofs.lemmas.Bool.{and_parts, false≢true}
use Rattle.std.specs.Prelude.{IsTrue, if◌then◌else◌}
use Rattle.yaml_base.specs.Renders.{permits}
use Rattle.yaml_base.specs.declared.emitter.AskedStyle.{AskedStyle}
use Rattle.yaml_base.specs.declared.emitter.AskedStyle.TheVariants as asked
use Rattle.yaml_base.specs.declared.event.ScalarStyle.TheVariants as style
use Rattle.yaml_emit.specs.Styles.{chosen_style, fits_block, fits_plain, fits_single_quotes, quotes_of}
use Rattle.yaml_emit.specs.declared.style.Style.{Style}
use Rattle.yaml_emit.specs.declared.style.Style.TheVariants.{Plain, SingleQuoted, DoubleQuoted, Literal}
use Rattle.yaml_grammar.proofs.PlainLaws.{not_true}
use Rattle.yaml_printed.specs.Printable.{may_ask}

-- a text that was asked for in a style, as a key in a line or not, fits the one that was chosen, which is permitted
pub data Chosen (ask : AskedStyle) (key : Bool) (text : List ℕ) : Style → Type 0 where
  is_plain : fits_plain text ≡ true → (key && length text == 0) ≡ false → IsTrue (permits ask style.Plain)
      → Chosen ask key text Plain
  is_single : fits_single_quotes text ≡ true → IsTrue (permits ask style.SingleQuoted)
      → Chosen ask key text SingleQuoted
  is_double : IsTrue (permits ask style.DoubleQuoted) → Chosen ask key text DoubleQuoted
  is_block : key ≡ false → fits_block text ≡ true → IsTrue (permits ask style.Literal) → Chosen ask key text Literal

module _ (ask : AskedStyle) (key : Bool) (text : List ℕ) where
  quotes_chosen : IsTrue (permits ask style.SingleQuoted) → IsTrue (permits ask style.DoubleQuoted) → (b : Bool)
      → fits_single_quotes text ≡ b → Chosen ask key text (if b then SingleQuoted else DoubleQuoted)
  quotes_chosen single double true e = is_single e single
  quotes_chosen single double false e = is_double double

  plain_chosen : IsTrue (permits ask style.Plain) → (b : Bool) → (fits_plain text && not (key && length text == 0)) ≡ b
      → Chosen ask key text (quotes_of text) → Chosen ask key text (if b then Plain else quotes_of text)
  plain_chosen allowed true e quotes =
      let p = and_parts (fits_plain text) (not (key && length text == 0)) e in
      is_plain p.0 (not_true (key && length text == 0) p.1) allowed
  plain_chosen allowed false e quotes = quotes

  block_chosen : IsTrue (permits ask style.Literal) → IsTrue (permits ask style.DoubleQuoted) → (b : Bool)
      → (not key && fits_block text) ≡ b → Chosen ask key text (if b then Literal else DoubleQuoted)
  block_chosen allowed double true e =
      let p = and_parts (not key) (fits_block text) e in
      is_block (not_true key p.0) p.1 allowed
  block_chosen allowed double false e = is_double double

pub chosen : (ask : AskedStyle) (key : Bool) (text : List ℕ) → may_ask ask key text ≡ true
    → Chosen ask key text (chosen_style text ask key)
chosen asked.Any key text may =
    plain_chosen asked.Any key text refl (fits_plain text && not (key && length text == 0)) refl
    (quotes_chosen asked.Any key text refl refl (fits_single_quotes text) refl)
chosen asked.Plain key text may = plain_asked key text (fits_plain text && not (key && length text == 0)) refl may
  where
    plain_asked : (key : Bool) (text : List ℕ) (b : Bool) → (fits_plain text && not (key && length text == 0)) ≡ b
        → b ≡ true
        → Chosen asked.Plain key text (if b then Plain else quotes_of text)
    plain_asked key text true e may =
        let p = and_parts (fits_plain text) (not (key && length text == 0)) e in
        is_plain p.0 (not_true (key && length text == 0) p.1) refl
    plain_asked key text false e may = absurd (false≢true may)
chosen asked.SingleQuoted key text may =
    quotes_chosen asked.SingleQuoted key text refl refl (fits_single_quotes text) refl
chosen asked.Literal key text may = block_chosen asked.Literal key text refl refl (not key && fits_block text) refl
