-- What the walks over values and pairs keep: the answer is that for those that are left.
use Rattle.std.proofs.Common.{◌≡◌, ◌≤◌, ◌+◌, ◌*◌, ◌-◌, drop}
use Rattle.yaml_tree.specs.Tree.{tree_size, trees_size, pairs_size, pair_list_size}
use Rattle.yaml_tree.specs.Valid.{values_of, pairs_of, content_under_tag}
use Rattle.yaml_tree.specs.View.{tree_of, trees_of}
use Rattle.yaml_round.specs.Survives.{values_survive, pairs_survive}
use Rattle.yaml_round.proofs.SurvivesLaws.{list_survives}
use Rattle.yaml_round.proofs.fit.+value_survives.Given as goal

abbrev pub decreases-value_survives : goal.decreases-value_survives
decreases-value_survives l = 3 * tree_size (tree_of l.value.now)

abbrev pub decreases-values_survive : goal.decreases-values_survive
decreases-values_survive l = 3 * trees_size (values_of l.values.now) + 1

abbrev pub decreases-pairs_survive : goal.decreases-pairs_survive
decreases-pairs_survive l = 3 * pairs_size (pairs_of l.pairs.now) + 1

abbrev pub decreases-tagged_survives : goal.decreases-tagged_survives
decreases-tagged_survives l = 3 * tree_size (content_under_tag l.tagged.now) + 1

abbrev pub invariant-values_survive-loop-value : goal.invariant-values_survive-loop-value
invariant-values_survive-loop-value l =
    values_survive l.within (values_of l.values)
    ≡ values_survive l.within (trees_of (drop l.value-index l.value-items))

abbrev pub invariant-pairs_survive-loop-key : goal.invariant-pairs_survive-loop-key
invariant-pairs_survive-loop-key l =
    (pairs_survive l.within (pairs_of l.pairs) ≡ list_survives l.within l.key-iterator)
    × (pair_list_size l.key-iterator ≤ pairs_size (pairs_of l.pairs))
