-- So many blanks stand there so far.
use Rattle.std.proofs.Common.{◌≡◌, ◌++◌, replicate, string_bytes}
use Rattle.yaml_emit.proofs.quoted.push_blanks.Given as goal

abbrev pub invariant-loop : goal.invariant-loop
invariant-loop l = string_bytes l.out ≡ string_bytes l.fn.out ++ replicate l.counter 32
