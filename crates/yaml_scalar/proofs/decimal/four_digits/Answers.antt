use Rattle.std.proofs.Common.{◌≡◌, ◌+◌, ◌-◌, ◌*◌, ◌/◌, ◌%◌, ◌<◌, ◌^◌, ℕ, length, get_or, rules, refl}
use Rattle.std.specs.Str.Parse.{AllDigits}
use Rattle.yaml_base.specs.Integers.{place_value}
use Rattle.yaml_scalar.proofs.FourDigits.{four-read}
use Rattle.yaml_scalar.proofs.decimal.four_digits.Goals as goal

-- where neither word has a byte above 127, the four bytes are digits, and what is put together is their number
read : (c : goal.Else-not-are_ascii-2) → let digits = (c.from_le_bytes-digits.result + (2 ^ 32 - 808464432)) % 2 ^ 32 in
    AllDigits 10 c.args.four
    × (digits * 2561 / 256 % 256 * 100 + digits * 2561 / 256 / 65536 % 256 ≡ place_value 10 c.args.four)
read c =
    let four : length c.args.four ≡ 4 = search rules in
    let bytes : (i : ℕ) → get_or c.args.four i 0 < 256 = search rules in
    let fits : c.from_le_bytes-digits.result < 2 ^ 32 = search rules in
    let low = c.are_ascii.ensures c.if-not-are_ascii.false in
    let more = c.are_ascii-else-not-are_ascii.ensures c.if-not-are_ascii-2.false in
    four-read c.args.four _ _ _ four bytes c.from_le_bytes-digits.ensures fits refl refl low more

pub returns-clause-digits : goal.returns-clause-digits
returns-clause-digits c = (read c).0

pub returns-clause-number : goal.returns-clause-number
returns-clause-number c = (read c).1
