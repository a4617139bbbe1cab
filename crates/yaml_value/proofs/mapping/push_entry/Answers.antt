-- The entry is the last pair.
use Rattle.std.proofs.Common.{ap, ◌∙◌}
use Rattle.yaml_value.specs.View.{entry_pairs}
use Rattle.yaml_value.proofs.Views.{entry_pairs-push}
use Rattle.yaml_value.proofs.mapping.push_entry.Goals as goal

pub returns-clause-ok : goal.returns-clause-ok
returns-clause-ok c =
    ap entry_pairs c.in_ok-push.ensures.items ∙ entry_pairs-push c.args.entries.now.items c.args.entry
