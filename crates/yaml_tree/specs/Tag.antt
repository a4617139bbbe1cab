-- Texts of tags, and which of them are one tag.
use Rattle.std.specs.Prelude.{List, [], ◌∷◌, ℕ, Bool, true, false, ◌&&◌, ◌==◌, if◌then◌else◌, bytes_eq}
use Rattle.std.specs.Str.{is_utf8}

-- the text is not empty
abbrev pub is_filled : List ℕ → Bool
is_filled [] = false
is_filled (c ∷ cs) = true

-- a text that a tag can have
abbrev pub is_tag : List ℕ → Bool
is_tag s = is_filled s && is_utf8 s

-- a tag's name: its text without one leading `!` (byte 33) that has something behind it
abbrev pub tag_name : List ℕ → List ℕ
tag_name [] = []
tag_name (c ∷ []) = c ∷ []
tag_name (c ∷ d ∷ cs) = if c == 33 then d ∷ cs else c ∷ d ∷ cs

-- two texts of tags are one tag where their names are equal
abbrev pub tag_eq : List ℕ → List ℕ → Bool
tag_eq s t = bytes_eq (tag_name s) (tag_name t)
