-- Bytes of a tag stand up to here.
use Rattle.std.proofs.Common.{ℕ, ◌+◌, ◌≡◌, ◌≤◌, ◌<◌, true}
use Rattle.yaml_direct.specs.Bytes.{at}
use Rattle.yaml_direct.proofs.tag.tag_text_end.Given as goal
use Rattle.yaml_grammar.specs.Names.{is_tag_byte}

abbrev pub invariant-loop-count : goal.invariant-loop-count
invariant-loop-count l = (k : ℕ) → l.from ≤ k → k < l.from + l.count → is_tag_byte l.wide (at l.text k) ≡ true
