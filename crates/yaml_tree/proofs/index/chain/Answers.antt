-- The two places that are kept put the entry behind those before it.
use Rattle.std.proofs.Common.{◌≡◌, ◌+◌, ◌%◌, length, ap, sym, ◌∙◌, subst, get_or, set}
use Rattle.std.proofs.lemmas.List.{length-set}
use Rattle.yaml_tree.specs.Entries.{with_earlier}
use Rattle.yaml_tree.specs.Hash.{hash_of}
use Rattle.yaml_tree.specs.Index.{IsChained}
use Rattle.yaml_tree.specs.View.{entry_pairs, tree_of}
use Rattle.yaml_tree.proofs.Indexed.{chained-next, with_chained, entry_pairs-with_earlier, entry_pairs-with_last_place}
use Rattle.yaml_tree.proofs.index.chain.Goals as goal

-- the entries then
after : (c : goal.After-set_earlier)
    → c.set_earlier.new.entries.items
    ≡ with_chained c.chain_of-chain.result c.args.place c.args.entries.now.items c.index-2.result.now
after c =
    let d = c.index-2.result.now in
    c.set_earlier.ensures d
    ∙ (λ i. set (c.set_last.ensures d i) c.args.place
    (with_earlier (get_or (c.set_last.ensures d i) c.args.place d) (ap (λ e. e.last) c.index-2.ensures i)))

pub returns-clause-chained : goal.returns-clause-chained
returns-clause-chained c =
    let chain = c.chain_of-chain.ensures.value
    ∙ ap (λ e. hash_of (tree_of e.key) % c.args.chains) c.index.ensures in
    subst (IsChained c.args.chains (c.args.place + 1)) (sym (after c))
    (chained-next c.args.chains c.chain_of-chain.result c.args.place c.args.entries.now.items c.index-2.result.now
    c.index.result.now c.requires.some c.requires.within c.requires.there chain c.requires.before)

pub returns-clause-same : goal.returns-clause-same
returns-clause-same c =
    let d = c.index-2.result.now in
    let es = c.args.entries.now.items in
    let first = c.set_last.ensures d in
    ap entry_pairs (c.set_earlier.ensures d)
    ∙ (entry_pairs-with_earlier _ c.args.place d.last d
    ∙ (ap entry_pairs first ∙ entry_pairs-with_last_place es c.chain_of-chain.result (c.args.place + 1) d))

pub returns-clause-len : goal.returns-clause-len
returns-clause-len c =
    let d = c.index-2.result.now in
    ap length (c.set_earlier.ensures d)
    ∙ (length-set _ c.args.place _ ∙ (ap length (c.set_last.ensures d) ∙ length-set _ c.chain_of-chain.result _))
