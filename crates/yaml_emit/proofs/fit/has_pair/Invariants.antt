-- What is left of the text answers for all of it.
use Rattle.std.proofs.Common.{◌≡◌, drop}
use Rattle.yaml_emit.specs.Styles.{has_behind, stand_side_by_side}
use Rattle.yaml_emit.proofs.fit.has_pair.Given as goal

abbrev pub invariant-loop-byte : goal.invariant-loop-byte
invariant-loop-byte l =
    has_behind l.first l.second l.before (drop l.byte-index l.text) ≡ stand_side_by_side l.first l.second l.text
