-- Each turn goes within one tag more.
use Rattle.std.proofs.Common.{◌+◌, ◌*◌}
use Rattle.yaml_value.specs.View.{plain, plain_tagged}
use Rattle.yaml_value.proofs.Changes.{tags}
use Rattle.yaml_value.proofs.value.change.+remove.Given as goal

abbrev pub decreases-remove_at : goal.decreases-remove_at
decreases-remove_at l = 2 * tags (plain l.value.now)

abbrev pub decreases-remove_under : goal.decreases-remove_under
decreases-remove_under l = 2 * tags (plain_tagged l.tagged.now).1 + 1
