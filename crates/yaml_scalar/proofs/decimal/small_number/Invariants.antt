-- what is left behind the number so far writes the whole with it
use Rattle.std.proofs.Common.{length, drop}
use Rattle.yaml_scalar.proofs.SmallNumbers.{IsRead}
use Rattle.yaml_scalar.proofs.decimal.small_number.Given as goal

abbrev pub invariant-loop-four : goal.invariant-loop-four
invariant-loop-four l = IsRead l.number l.left l.digits

abbrev pub decreases-loop-four : goal.decreases-loop-four
decreases-loop-four l = length l.left

abbrev pub invariant-loop-byte : goal.invariant-loop-byte
invariant-loop-byte l = IsRead l.number (drop l.byte-index l.byte-items) l.digits
