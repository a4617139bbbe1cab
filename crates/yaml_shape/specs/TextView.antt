-- The bytes of a text, lent or owned.
use Rattle.std.specs.Prelude.{ℕ, List, string_bytes}
use Rattle.yaml_shape.specs.declared.text.Text.{Text}
use Rattle.yaml_shape.specs.declared.text.Text.TheVariants.{Borrowed, Owned}

-- the bytes of a text
abbrev pub text_bytes : Text → List ℕ
text_bytes (Borrowed s) = s.now
text_bytes (Owned s) = string_bytes s
