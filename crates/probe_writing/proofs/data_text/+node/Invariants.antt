-- Each node takes a nesting.
use Rattle.std.proofs.Common.{◌+◌, ◌*◌}
use Rattle.probe_writing.proofs.data_text.+node.Given as goal

abbrev pub decreases-node : goal.decreases-node
decreases-node l = 3 * l.depth

abbrev pub decreases-inside : goal.decreases-inside
decreases-inside l = 3 * l.depth + 1

abbrev pub decreases-elements : goal.decreases-elements
decreases-elements l = 3 * l.depth + 1

abbrev pub decreases-parts : goal.decreases-parts
decreases-parts l = 3 * l.depth + 1

abbrev pub decreases-named : goal.decreases-named
decreases-named l = 3 * l.depth + 1

abbrev pub decreases-entries : goal.decreases-entries
decreases-entries l = 3 * l.depth + 1

abbrev pub decreases-variant : goal.decreases-variant
decreases-variant l = 3 * l.depth + 2
