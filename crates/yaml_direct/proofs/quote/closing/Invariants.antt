-- What closes the scalar from here on closes it from the start on.
use Rattle.std.proofs.Common.{ℕ, ◌≤◌, ◌-◌, length}
use Rattle.yaml_direct.specs.LeftInBrackets.{Passes}
use Rattle.yaml_direct.specs.Quoted.{Closes, EndsRun}
use Rattle.yaml_direct.proofs.quote.closing.Given as goal

abbrev pub invariant-runs : goal.invariant-runs
invariant-runs l = record {
  forward : l.from ≤ l.place;
  within : l.place ≤ length l.text;
  closes : (j : ℕ) → Closes l.text l.quote l.place j → Closes l.text l.quote l.from j;
  passes : (j : ℕ) → Passes l.text l.quote l.place j → Passes l.text l.quote l.from j;
  ends : EndsRun l.text l.quote l.from → EndsRun l.text l.quote l.place;
}

abbrev pub decreases-runs : goal.decreases-runs
decreases-runs l = length l.initial.text - l.place
