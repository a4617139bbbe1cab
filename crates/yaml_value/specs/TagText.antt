-- Texts of tags and their names.
use Rattle.std.specs.Prelude.{ℕ, List, [], ◌∷◌, ◌==◌, Option, Some, None, if◌then◌else◌, unwrap_or}

-- what stands behind a byte, where a text begins with it
abbrev pub behind_byte : ℕ → List ℕ → Option (List ℕ)
behind_byte byte [] = None
behind_byte byte (c ∷ cs) = if c == byte then Some cs else None

-- the first text, or the second where there is one that is not empty
abbrev pub filled_or : List ℕ → Option (List ℕ) → List ℕ
filled_or text (Some (c ∷ cs)) = c ∷ cs
filled_or text _ = text

-- a name without one leading `!` (byte 33) that has something behind it
abbrev pub unbanged : List ℕ → List ℕ
unbanged name = filled_or name (behind_byte 33 name)

-- the text of the tag of a name, which may have a `!` in front
abbrev pub text_of_name : List ℕ → List ℕ
text_of_name name = 33 ∷ unbanged name

-- the name in the text of a tag: what stands behind its `!`
abbrev pub name_of_text : List ℕ → List ℕ
name_of_text text = unwrap_or (behind_byte 33 text) []
