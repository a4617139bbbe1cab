-- The events so far say the same.
use Rattle.std.proofs.Common.{◌≡◌, ◌≤◌, length, take}
use Rattle.yaml_layout.specs.Said.{said}
use Rattle.yaml_layout.proofs.compare.difference.Given as goal

abbrev pub invariant-loop-i : goal.invariant-loop-i
invariant-loop-i l = record {
  in_both : l.i ≤ length l.others;
  same : said (take l.i l.events) ≡ said (take l.i l.others);
}
