-- The entry there keeps it.
use Rattle.std.proofs.Common.{sym}
use Rattle.std.proofs.lemmas.List.{get_or-map}
use Rattle.yaml_value.proofs.index.earlier_at.Goals as goal

pub returns : goal.returns
returns c =
    sym (get_or-map (λ e. e.earlier) c.args.entries.now c.args.place c.index-entries-place.result 0 c.requires)
