-- Values and pairs are gone over part by part.
use Rattle.std.proofs.Common.{◌≡◌, arith, refl, ap, sym, ◌∙◌}
use Rattle.yaml_tree.proofs.Callers.{tree_size-item, pair_list_size-pair_list}
use Rattle.yaml_tree.specs.Tree.{pair_list, pair_list_size}
use Rattle.yaml_tree.specs.Valid.{pairs_of, values_of}
use Rattle.yaml_round.proofs.SurvivesLaws.{list_survives, pairs_survive-list}
use Rattle.yaml_round.proofs.fit.+value_survives.Goals as goal

pub values_survive-value_survives-requires : goal.values_survive-value_survives-requires
values_survive-value_survives-requires t c =
    let smaller = tree_size-item _ _ _ _ c.as_slice-value-items.ensures c.loop-value-test.true c.value-item.is in
    omega (arith, smaller, c.decreases)

pub pairs_survive-loop-key-init : goal.pairs_survive-loop-key-init
pairs_survive-loop-key-init t c =
    let pairs : c.into_iter-key-iterator.result ≡ pair_list (pairs_of c.args.pairs.now) = cc in (
      pairs_survive-list c.in-Some.within (pairs_of c.args.pairs.now)
          ∙ sym (ap (list_survives c.in-Some.within) pairs),
      omega (arith, ap pair_list_size pairs, pair_list_size-pair_list (pairs_of c.args.pairs.now)),
    )
