-- The one character of a text, as an iterator over characters finds it.
use Rattle.std.proofs.Common.{◌≡◌, ℕ, List, [], ◌++◌, length, refl, sym, ◌∙◌}
use Rattle.std.specs.Prelude.{Some, None}
use Rattle.std.specs.Str.{IsUtf8, chars}
use Rattle.std.proofs.Math.Utf8.{encode}
use Rattle.std.proofs.lemmas.Str.{IsUtf8-past_char, chars_past_char, chars-nil}
use Rattle.yaml_meaning.specs.ScalarShapes.{only_one}

-- the text is one character and nothing
pub one-character : (text all rest : List ℕ) (c : ℕ) → IsUtf8 text → all ≡ text → all ≡ encode c ++ rest → length rest
    ≡ 0
    → Some c ≡ only_one (chars text)
one-character text all [] c utf8 same e none = rw (chars_past_char text [] c utf8 (sym same ∙ e), chars-nil) refl
one-character text all rest c utf8 same e none = absurd cc

-- the text is one character and another one
pub two-characters : (text all rest more : List ℕ) (c d : ℕ) → IsUtf8 text → all ≡ text → all ≡ encode c ++ rest
    → rest ≡ encode d ++ more → None ≡ only_one (chars text)
two-characters text all rest more c d utf8 same e f =
    let split = sym same ∙ e in
    rw (chars_past_char text rest c utf8 split, chars_past_char rest more d (IsUtf8-past_char text rest c utf8 split) f)
    refl
