-- A line that lacks one of the numbers, or has one too great, begins with no mark.
use Rattle.std.proofs.Common.{subst, sym, ◌+◌, ◌<◌, ◌^◌, ℕ}
use Rattle.yaml_lines.proofs.PlaceLaws.{no_index, no_line, no_column, mark_numbers}
use Rattle.yaml_lines.proofs.line.parts.mark_of.Goals as goal

pub returns-in_err-index : goal.returns-in_err-index
returns-in_err-index c = rw c.from_residual.ensures (no_index _ c.in_err-index.ensures)

pub returns-in_err-line : goal.returns-in_err-line
returns-in_err-line c =
    rw c.from_residual-in_err-line.ensures (no_line _ _ _ c.in_ok-index.ensures c.in_err-line.ensures)

pub returns-in_err-column : goal.returns-in_err-column
returns-in_err-column c =
    rw c.from_residual-in_err-column.ensures
    (no_column _ _ _ _ _ c.in_ok-index.ensures c.in_ok-line.ensures c.in_err-column.ensures)

pub returns-in_err-mark : goal.returns-in_err-mark
returns-in_err-mark c =
    rw c.from_residual-in_err-mark.ensures (λ mark rest is.
    let u = mark_numbers _ _ _ _ _ _ _ c.in_ok-index.ensures c.in_ok-line.ensures c.in_ok-column.ensures mark rest is in
    let countable = λ (n : ℕ). n + 1 < 2 ^ 64 in
    c.in_err-mark.ensures (subst countable (sym u.1) is.countable_line, subst countable (sym u.2) is.countable_column))
