-- Characters past U+FFFF, as JSON writes them.
use Rattle.std.specs.Prelude.{ℕ, ◌+◌, ◌-◌, ◌*◌}

-- the character that a high and a low surrogate stand for (RFC 8259, section 7)
abbrev pub surrogate_pair : ℕ → ℕ → ℕ
surrogate_pair high low = 0x10000 + (high - 0xd800) * 1024 + (low - 0xdc00)
