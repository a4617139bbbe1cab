-- Blanks stand behind this place.
use Rattle.std.proofs.Common.{◌≡◌, ◌≤◌, ◌<◌, ◌-◌, ℕ, length, true}
use Rattle.yaml_direct.specs.Bytes.{at}
use Rattle.yaml_direct.specs.Quoted.{is_end_blank}
use Rattle.yaml_direct.proofs.quote.blanks_at_end.Given as goal

abbrev pub invariant-loop-count : goal.invariant-loop-count
invariant-loop-count l =
    (k : ℕ) → length l.run - l.count ≤ k → k < length l.run → is_end_blank (at l.run k) ≡ true
