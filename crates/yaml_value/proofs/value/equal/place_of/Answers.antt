-- Among few it is looked for one by one, and among many in its chain, whose end the index knows.
use Rattle.std.proofs.Common.{◌<◌, ap, arith, length, subst, ◌∙◌}
use Rattle.yaml_tree.specs.Index.{chain_count}
use Rattle.yaml_value.specs.Index.{chain_end}
use Rattle.yaml_value.proofs.value.equal.place_of.Goals as goal

pub place_in_chain-requires : goal.place_in_chain-requires
place_in_chain-requires c =
    let es = c.args.entries.now in
    let some : 0 < chain_count (length es) =
    subst (λ n. 0 < n) (c.chain_count-chains.ensures.value ∙ ap chain_count c.count.ensures.len)
    (omega (arith, c.if-chains-eq0.false)) in
    record {
      sound = c.requires;
      some = some;
      first = c.first_of.ensures some c.requires.0 ∙ ap (λ h. chain_end h es) c.hash_value.ensures;
    }
