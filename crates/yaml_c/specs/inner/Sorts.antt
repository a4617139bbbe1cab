-- What a scalar was found to be, in numbers.
use Rattle.std.specs.Prelude.{ℕ, ◌+◌, ◌*◌, ◌^◌, ◌==◌, if◌then◌else◌, None, Some}
use Rattle.yaml_c.specs.Numbers.{ScalarNumbers, TextNumbers}
use Rattle.yaml_c.specs.declared.scalar.Sort.{Sort}
use Rattle.yaml_c.specs.declared.scalar.TextSort.{TextSort}

-- those of a text
abbrev pub text_numbers_of : TextSort → TextNumbers
text_numbers_of s = record {
  word = s.word;
  value = s.high * 2 ^ 64 + s.low;
  float = if s.has_float == 1 then Some s.float_bits else None;
}

-- those of a scalar under a tag with this number
abbrev pub numbers_of : Sort → (tag : ℕ) → ScalarNumbers
numbers_of s tag = record { kind = s.kind; tag = tag; text = text_numbers_of s.text }
