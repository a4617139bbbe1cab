-- The two places that are kept put the entry behind those before it.
use Rattle.std.proofs.Common.{◌∙◌}
use Rattle.yaml_value.proofs.Indexed.{chained-next}
use Rattle.std.proofs.Common.{ap, set}
use Rattle.yaml_value.proofs.index.chain.Goals as goal

pub returns-clause-pairs : goal.returns-clause-pairs
returns-clause-pairs c = c.set_earlier.ensures.pairs ∙ c.set_last.ensures.pairs

pub returns-clause-len : goal.returns-clause-len
returns-clause-len c = c.set_earlier.ensures.len ∙ c.set_last.ensures.len

pub returns-clause-chained : goal.returns-clause-chained
returns-clause-chained c = λ before.
    chained-next c.args.chains c.hash_in-hash.result c.chain_of-number.result c.last_in-earlier.result c.args.place
    c.args.entries.now.items c.set_earlier.new.entries.items c.requires.some c.requires.within c.requires.there
    c.hash_in-hash.ensures c.chain_of-number.ensures.value c.last_in-earlier.ensures
    (c.set_earlier.ensures.pairs ∙ c.set_last.ensures.pairs) (c.set_earlier.ensures.lasts ∙ c.set_last.ensures.lasts)
    (c.set_earlier.ensures.earliers
    ∙ ap (λ xs. set xs c.args.place c.last_in-earlier.result) c.set_last.ensures.earliers) before
