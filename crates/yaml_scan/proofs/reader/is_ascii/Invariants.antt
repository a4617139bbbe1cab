-- What was looked at so far.
use Rattle.std.proofs.Common.{IsTrue, ℕ, ◌<◌, slice_index}
use Rattle.yaml_scan.proofs.reader.is_ascii.Given as goal

abbrev pub invariant-loop-byte : goal.invariant-loop-byte
invariant-loop-byte l = IsTrue l.ascii → (i : ℕ) → i < l.byte-index → slice_index l.text i < 128
