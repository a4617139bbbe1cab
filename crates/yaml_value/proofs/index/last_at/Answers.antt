-- The entry there keeps it.
use Rattle.std.proofs.Common.{sym}
use Rattle.std.proofs.lemmas.List.{get_or-map}
use Rattle.yaml_value.proofs.index.last_at.Goals as goal

pub returns : goal.returns
returns c =
    sym (get_or-map (λ e. e.last) c.args.entries.now c.args.chain c.index-entries-chain.result 0 c.requires)
