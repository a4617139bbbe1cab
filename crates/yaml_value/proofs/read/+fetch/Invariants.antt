-- A value is read within the nestings that are left, and each part within one less.
use Rattle.std.proofs.Common.{◌+◌, ◌*◌}
use Rattle.yaml_value.proofs.read.+fetch.Given as goal

abbrev pub decreases-fetch : goal.decreases-fetch
decreases-fetch g l = 3 * l.nestings

abbrev pub decreases-fetch_entries : goal.decreases-fetch_entries
decreases-fetch_entries g l = 3 * l.nestings + 2

abbrev pub decreases-fetch_entry : goal.decreases-fetch_entry
decreases-fetch_entry g l = 3 * l.nestings + 1

abbrev pub decreases-fetch_sequence : goal.decreases-fetch_sequence
decreases-fetch_sequence g l = 3 * l.nestings + 1

abbrev pub decreases-fetch_tagged : goal.decreases-fetch_tagged
decreases-fetch_tagged g l = 3 * l.nestings + 1
