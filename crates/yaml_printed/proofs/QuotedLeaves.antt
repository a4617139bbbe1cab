-- What is printed between quotes is a leaf, before any byte but a quote.
use Rattle.std.proofs.Common.{◌≡◌, ℕ, zero, suc, ◌+◌, ◌<◌, ◌==◌, false, true, ap, ◌∙◌, arith, List, [], ◌∷◌, ◌++◌}
use Rattle.std.proofs.Common.{length}
use Rattle.std.proofs.Common.{Some, append_assoc}
use Rattle.std.proofs.lemmas.List.{length-append}
use Rattle.std.specs.List.{flat_map}
use Rattle.std.specs.Str.{IsUtf8, chars}
use Rattle.yaml_base.specs.declared.event.ScalarStyle.TheVariants as style
use Rattle.yaml_emit.specs.PrintedTexts.{double_quoted, escaped_character, single_quoted}
use Rattle.yaml_emit.specs.Styles.{fits_single_quotes}
use Rattle.yaml_emit.proofs.EscapeLaws.{unescaped-printed}
use Rattle.yaml_grammar.specs.Leaves.{in_style, leaf_at}
use Rattle.yaml_grammar.specs.Plain.{Context}
use Rattle.yaml_grammar.proofs.LeafLaws.{double_leaf}
use Rattle.yaml_printed.proofs.Rests.{Rest}
use Rattle.yaml_printed.proofs.SingleLines.{single_leaf_lines}

pub single_at : {text : List ℕ} (context : Context) (b : ℕ) (after : List ℕ) (indent : ℕ) (t : List ℕ) (i : ℕ)
    → IsUtf8 t → fits_single_quotes t ≡ true → 0 < indent → (b == 39) ≡ false
    → Rest text i (single_quoted indent t ++ (b ∷ after))
    → leaf_at text context i ≡ Some (in_style style.SingleQuoted t, i + length (single_quoted indent t))
single_at context b after zero t i u fits deep other r = absurd (omega (arith, deep))
single_at context b after (suc indent) t i u fits deep other r =
    single_leaf_lines context indent b after t i u fits other r

pub double_at : {text : List ℕ} (context : Context) (after t : List ℕ) (i : ℕ) → IsUtf8 t
    → Rest text i (double_quoted t ++ after)
    → leaf_at text context i ≡ Some (in_style style.DoubleQuoted t, i + length (double_quoted t))
double_at {text = text} context after t i u r =
    let inside = flat_map escaped_character (chars t) in
    double_leaf text inside after t context i
    (r.same ∙ ap (λ l. 34 ∷ l) (append_assoc inside (34 ∷ []) after)) (unescaped-printed t u)
    ∙ ap (λ m. Some (in_style style.DoubleQuoted t, m)) (two_more i 34 inside)
  where
    two_more : (k c : ℕ) (inside : List ℕ) → k + length inside + 2 ≡ k + length (c ∷ (inside ++ c ∷ []))
    two_more k c inside = omega (arith, length-append inside (c ∷ []))
