-- So many line feeds stand there so far.
use Rattle.std.proofs.Common.{◌≡◌, ◌++◌, replicate}
use Rattle.yaml_direct.proofs.plain.push_feeds.Given as goal

abbrev pub invariant-loop : goal.invariant-loop
invariant-loop l = l.out.items ≡ l.fn.out.items ++ replicate l.counter 10
