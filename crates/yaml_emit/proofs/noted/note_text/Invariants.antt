-- The bytes so far are noted.
use Rattle.std.proofs.Common.{◌≡◌, take}
use Rattle.yaml_emit.proofs.noted.note_text.Given as goal

abbrev pub invariant-loop-byte : goal.invariant-loop-byte
invariant-loop-byte l = l.noted.items ≡ take l.byte-index l.byte-items
