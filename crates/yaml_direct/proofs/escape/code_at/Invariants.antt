use Rattle.std.proofs.Common.{◌+◌}
use Rattle.yaml_direct.specs.Quoted.{AreDigits}
use Rattle.yaml_direct.proofs.EscapeLaws.{SayUpTo}
use Rattle.yaml_direct.proofs.escape.code_at.Given as goal

abbrev pub invariant-loop-index : goal.invariant-loop-index
invariant-loop-index l = record {
  said : SayUpTo l.text l.from l.digits l.index l.code;
  digits : AreDigits l.text l.from (l.from + l.index);
}
