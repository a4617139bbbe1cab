-- Each value takes a nesting.
use Rattle.std.proofs.Common.{◌+◌, ◌*◌}
use Rattle.probe_writing.proofs.data_text.value.+value.Given as goal

abbrev pub decreases-value : goal.decreases-value
decreases-value l = 2 * l.depth

abbrev pub decreases-sequence : goal.decreases-sequence
decreases-sequence l = 2 * l.depth + 1

abbrev pub decreases-mapping : goal.decreases-mapping
decreases-mapping l = 2 * l.depth + 1

abbrev pub decreases-tagged : goal.decreases-tagged
decreases-tagged l = 2 * l.depth + 1
