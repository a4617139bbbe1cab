-- What was read up to here.
use Rattle.std.proofs.Common.{length, ◌-◌}
use Rattle.yaml_direct.proofs.TagLaws.{UnescapedTo}
use Rattle.yaml_direct.proofs.tag.push_unescaped.Given as goal

abbrev pub invariant-bytes : goal.invariant-bytes
invariant-bytes l = UnescapedTo l.written l.place l.fn.out.items l.out.items

abbrev pub decreases-bytes : goal.decreases-bytes
decreases-bytes l = length l.written - l.place
