-- What is printed between single quotes is read as the text, where that has no line break.
use Rattle.std.proofs.Common.{◌≡◌, ℕ, ◌+◌, false, true, List, [], ◌∷◌, ◌++◌, Some, inl, inr, refl, sym, ap, ◌∙◌, subst}
use Rattle.std.proofs.Common.{arith}
use Rattle.std.proofs.lemmas.Bool.{cases_eq, and_parts, or_parts, ne_eqb}
use Rattle.std.proofs.lemmas.Str.{encodes-chars, scalars-chars}
use Rattle.std.specs.List.{list_any}
use Rattle.std.specs.Str.{IsUtf8, chars}
use lib.Utf8.{encode, encodes, scalar, scalars}
use Rattle.yaml_base.specs.LineBreaks.{begins_with_break}
use Rattle.yaml_base.specs.QuotedLines.{before, undoubled, undoubled_behind}
use Rattle.yaml_emit.specs.Characters.{is_break}
use Rattle.yaml_emit.specs.PrintedTexts.{quote_doubled, single_rest}
use Rattle.yaml_emit.proofs.ByItself.{EndsNoLine, ends_no_line, shown, top_of}

-- a byte but a quote
as_it_is_in_single : (b : ℕ) (t : List ℕ) → (b ≡ 39 → ⊥) → begins_with_break (b ∷ t) ≡ false
    → undoubled_behind false (b ∷ t) ≡ before (b ∷ []) (undoubled_behind false t)
as_it_is_in_single b t quote alone = rw (ne_eqb b 39 quote, alone) refl

quote_itself : (t : List ℕ)
    → undoubled_behind false (quote_doubled 39 ++ t) ≡ before (encode 39) (undoubled_behind false t)
unfolding encode
quote_itself t = refl

-- what is printed of a character is read as that character
doubled : (c : ℕ) (t : List ℕ) → EndsNoLine c → scalar c ≡ true
    → undoubled_behind false (quote_doubled c ++ t) ≡ before (encode c) (undoubled_behind false t)
doubled c t u h = elim (cases_eq c 39) [
  | inl e ↦ subst (λ x. undoubled_behind false (quote_doubled x ++ t) ≡ before (encode x) (undoubled_behind false t))
      (sym e) (quote_itself t)
  | inr other ↦ rw (ne_eqb c 39 other)
      (shown (undoubled_behind false) (λ b. b ≡ 39 → ⊥) (λ b far e. omega arith) as_it_is_in_single
      c t (λ ascii. other) u (omega (arith, top_of c h)))
]

undoubled-all : (indent : ℕ) (cs : List ℕ) → scalars cs ≡ true → list_any is_break cs ≡ false
    → undoubled (single_rest indent false cs) ≡ Some (encodes cs)
undoubled-all indent [] h alone = refl
undoubled-all indent (c ∷ cs) h alone =
    let p = and_parts _ _ h in
    let a = or_parts _ _ alone in
    let u = ends_no_line c a.0 in
    rw (ne_eqb c 10 u.feed)
    (doubled c (single_rest indent false cs) u p.0 ∙ ap (before (encode c)) (undoubled-all indent cs p.1 a.1))

-- what is printed between single quotes of a text without line breaks stands for it
pub undoubled-printed : (indent : ℕ) (text : List ℕ) → IsUtf8 text → list_any is_break (chars text) ≡ false
    → undoubled (single_rest indent false (chars text)) ≡ Some text
undoubled-printed indent text u alone =
    undoubled-all indent (chars text) (scalars-chars text u) alone ∙ ap Some (encodes-chars text u)
