-- What was put together, and what the events that are left leave of the text.
use Rattle.std.proofs.Common.{◌≡◌, ◌++◌, drop}
use Rattle.yaml_layout.specs.OwnText.{outside}
use Rattle.yaml_layout.proofs.comments.outside.Given as goal

abbrev pub invariant-loop-i : goal.invariant-loop-i
invariant-loop-i l = l.rest.items ++ outside l.text l.at (drop l.i l.events) ≡ outside l.text 0 l.events
