-- So many bytes were passed, and those that are left say how many more stand before the own text.
use Rattle.std.proofs.Common.{◌≡◌, ◌+◌, drop}
use Rattle.yaml_layout.specs.OwnText.{before_own, head_from}
use Rattle.yaml_layout.proofs.comments.before_own.Given as goal

abbrev pub invariant-loop-at : goal.invariant-loop-at
invariant-loop-at l = l.at + head_from l.state (drop l.at l.source) ≡ before_own l.source
