-- Texts in which some bytes stand as escapes.
use Rattle.std.specs.Prelude.{ℕ, ◌≡◌, ◌≢◌, ◌+◌, ◌*◌, ◌<◌, ◌≤◌, List, [], ◌∷◌, ◌++◌, codes, All}
use Rattle.std.specs.Char.{digit_value}

-- the byte isn't in the text
abbrev pub Lacks : List ℕ → ℕ → Type 0
Lacks text byte = All (λ b. b ≢ byte) text

-- one byte as a line writes it: printable ASCII as itself, and any byte as one of the escapes
pub data IsSpelling (unit : List ℕ) (byte : ℕ) : Type 0 where
  itself : unit ≡ byte ∷ [] → 32 ≤ byte → byte ≤ 126 → byte ≢ 92 → IsSpelling unit byte
  backslash : unit ≡ codes "\\\\" → byte ≡ 92 → IsSpelling unit byte
  line_feed : unit ≡ codes "\\n" → byte ≡ 10 → IsSpelling unit byte
  tab : unit ≡ codes "\\t" → byte ≡ 9 → IsSpelling unit byte
  number : (high low : ℕ) → unit ≡ codes "\\x" ++ (high ∷ low ∷ []) → digit_value high < 16 → digit_value low < 16
      → byte ≡ 16 * digit_value high + digit_value low → IsSpelling unit byte

-- the text writes this byte first, and then the rest
pub record BeginsWith (text : List ℕ) (byte : ℕ) (rest : List ℕ) : Type 0 where
  pub unit : List ℕ
  pub split : text ≡ unit ++ rest
  pub spelling : IsSpelling unit byte

-- the text writes these bytes, one behind the other
abbrev pub Spells : List ℕ → List ℕ → Type 0
Spells text [] = text ≡ []
Spells text (byte ∷ bytes) = (rest : List ℕ) × BeginsWith text byte rest × Spells rest bytes
