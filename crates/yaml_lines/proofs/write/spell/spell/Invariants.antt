-- The bytes so far stand there.
use Rattle.std.proofs.Common.{◌≡◌, ◌++◌, string_bytes, take}
use Rattle.yaml_lines.specs.WrittenLines.{spelled}
use Rattle.yaml_lines.proofs.write.spell.spell.Given as goal

abbrev pub invariant-loop-byte : goal.invariant-loop-byte
invariant-loop-byte l =
    string_bytes l.out ≡ string_bytes l.fn.out ++ spelled l.numbered (take l.byte-index l.bytes)
