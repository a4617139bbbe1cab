-- The bytes so far stand there.
use Rattle.std.proofs.Common.{◌≡◌, ◌++◌, string_bytes, take}
use Rattle.std.specs.List.{flat_map}
use Rattle.yaml_emit.specs.Tags.{tag_byte}
use Rattle.yaml_emit.proofs.tag.push_suffix.Given as goal

abbrev pub invariant-loop-byte : goal.invariant-loop-byte
invariant-loop-byte l =
    string_bytes l.out ≡ string_bytes l.fn.out ++ flat_map tag_byte (take l.byte-index l.suffix)
