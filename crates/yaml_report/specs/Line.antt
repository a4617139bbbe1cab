-- The lines of a text.
use Rattle.std.specs.Prelude.{ℕ, ◌≡◌, ◌⊎◌}

-- a byte that ends a line: a line feed or a carriage return
abbrev pub EndsLine : ℕ → Type 0
EndsLine byte = (byte ≡ 10) ⊎ (byte ≡ 13)
