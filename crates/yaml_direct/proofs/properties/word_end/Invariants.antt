-- Bytes of a name stand up to here.
use Rattle.std.proofs.Common.{ℕ, ◌+◌, ◌≡◌, ◌≤◌, ◌<◌, true}
use Rattle.yaml_direct.specs.Bytes.{at}
use Rattle.yaml_direct.proofs.properties.word_end.Given as goal
use Rattle.yaml_grammar.specs.Names.{is_name_byte}

abbrev pub invariant-loop-count : goal.invariant-loop-count
invariant-loop-count l = (k : ℕ) → l.from ≤ k → k < l.from + l.count → is_name_byte (at l.text k) ≡ true
