-- What was written so far is the bytes so far, escaped.
use Rattle.std.proofs.Common.{take}
use Rattle.std.specs.List.{flat_map}
use Rattle.std.specs.Fmt.{HasWritten, IsPlainFormatter}
use Rattle.yaml_tree.specs.Quoted.{escaped}
use Rattle.yaml_tree.proofs.quoted.write_escaped_bytes.Given as goal

abbrev pub invariant-loop-byte : goal.invariant-loop-byte
invariant-loop-byte g l = IsPlainFormatter l.fn.f
    → HasWritten g.W.Write.write_str_gives l.fn.f (flat_map escaped (take l.byte-index l.bytes)) l.f
