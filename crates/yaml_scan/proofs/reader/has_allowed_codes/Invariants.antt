-- What was looked at so far.
use Rattle.std.proofs.Common.{◌≡◌, take}
use Rattle.std.specs.List.{list_all}
use Rattle.yaml_scan.specs.AllowedText.{is_allowed}
use Rattle.yaml_scan.proofs.reader.has_allowed_codes.Given as goal

abbrev pub invariant-loop-byte : goal.invariant-loop-byte
invariant-loop-byte l = l.allowed ≡ list_all is_allowed (take l.byte-index l.text)
