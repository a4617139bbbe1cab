use Rattle.std.proofs.Common.{◌≡◌, ◌<◌, ◌≤◌, length, drop, arith}
use Rattle.std.proofs.lemmas.List.{drop_more}
use Rattle.std.proofs.Math.Seq.{drop-length}
use Rattle.yaml_scalar.proofs.SmallNumbers.{read-byte, read-first, read-four, read-room, read-small, read-whole}
use Rattle.yaml_scalar.proofs.decimal.small_number.Goals as goal

pub loop-four-init : goal.loop-four-init
loop-four-init c =
    let first = c.in_ok-number.ensures in
    let few : length c.in_ok-first.rest.now < 18 = omega (arith, c.if-rest-ge-DIGITS.false) in
    rw (c.in_ok-first.ensures.cases.0, first.value) (read-first _ _ first.digit few)

pub overflow_mul-number : goal.overflow_mul-number
overflow_mul-number c =
    let more = c.in-Some.ensures.cases.2 in
    omega (arith, read-room _ 4 _ _ (omega (arith, more)) c.loop-four.invariant)

pub overflow_add-number : goal.overflow_add-number
overflow_add-number c =
    let chunk = c.in-Some.ensures.cases in
    let four = c.in_ok-number-2.ensures in
    let read = read-four _ _ _ _ _ chunk.0 chunk.1 chunk.2 four.digits c.loop-four.invariant in
    omega (arith, four.number, read-small _ _ _ read)

pub loop-four-preserved : goal.loop-four-preserved
loop-four-preserved c =
    let chunk = c.in-Some.ensures.cases in
    let four = c.in_ok-number-2.ensures in
    rw four.number (read-four _ _ _ _ _ chunk.0 chunk.1 chunk.2 four.digits c.loop-four.invariant)

pub overflow_mul-number-in-loop-byte : goal.overflow_mul-number-in-loop-byte
overflow_mul-number-in-loop-byte c =
    let more : 1 ≤ length (drop c.loop-byte.byte-index c.loop-four.left.now) =
    rw (drop_more c.loop-four.left.now c.loop-byte.byte-index 0 c.loop-byte-test.true) (omega arith) in
    omega (arith, read-room _ 1 _ _ more c.loop-byte.invariant)

pub overflow_add-number-in-loop-byte : goal.overflow_add-number-in-loop-byte
overflow_add-number-in-loop-byte c =
    let more : 1 ≤ length (drop c.loop-byte.byte-index c.loop-four.left.now) =
    rw (drop_more c.loop-four.left.now c.loop-byte.byte-index 0 c.loop-byte-test.true) (omega arith) in
    let digit = c.in_ok-digit.ensures in
    omega (arith, read-room _ 1 _ _ more c.loop-byte.invariant, digit.digit, digit.value)

pub loop-byte-preserved : goal.loop-byte-preserved
loop-byte-preserved c =
    let digit = c.in_ok-digit.ensures in
    let left = rw (drop_more c.loop-four.left.now c.loop-byte.byte-index 0 c.loop-byte-test.true)
    at c.loop-byte.invariant in
    rw digit.value (read-byte _ _ _ _ digit.digit left)

pub returns-clause-number : goal.returns-clause-number
returns-clause-number c =
    let end : c.loop-byte.byte-index ≡ length c.loop-four.left.now =
    omega (arith, c.loop-byte-test.false, c.loop-byte.auto.byte-index-end) in
    let read = rw (end, drop-length c.loop-four.left.now) at c.loop-byte.invariant in
    read-whole _ _ _ _ c.in_ok-first.ensures.cases.0 c.in_ok-number.ensures.digit read
