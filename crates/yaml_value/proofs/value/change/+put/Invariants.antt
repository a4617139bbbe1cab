-- Each turn goes within one tag more.
use Rattle.std.proofs.Common.{◌+◌, ◌*◌}
use Rattle.yaml_value.specs.View.{plain, plain_tagged}
use Rattle.yaml_value.proofs.Changes.{tags}
use Rattle.yaml_value.proofs.value.change.+put.Given as goal

abbrev pub decreases-put_at : goal.decreases-put_at
decreases-put_at l = 2 * tags (plain l.value.now)

abbrev pub decreases-put_under : goal.decreases-put_under
decreases-put_under l = 2 * tags (plain_tagged l.tagged.now).1 + 1
