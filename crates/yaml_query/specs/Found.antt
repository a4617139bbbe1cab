-- What of a finding is seen.
use Rattle.std.specs.Prelude.{ℕ, Result, Ok, Err}
use Rattle.std.specs.Borrow.{Bor}
use Rattle.yaml_value.specs.PlainValue.{PlainValue}
use Rattle.yaml_value.specs.View.{plain}
use Rattle.yaml_value.specs.declared.value.Value.{Value}

abbrev pub seen : Result (Bor Value) ℕ → Result PlainValue ℕ
seen (Ok value) = Ok (plain value.now)
seen (Err count) = Err count
