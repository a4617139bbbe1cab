-- What is left to be written is as before, but for what was added, what was there is kept, and each call is on a
-- smaller
-- value.
use Rattle.std.proofs.Common.{◌≡◌, ◌≤◌, ◌+◌, ◌*◌, ◌++◌, drop}
use Rattle.yaml_base.specs.EmitTree.{emit_nodes_events, emit_pairs_events}
use Rattle.yaml_tree.specs.Tree.{tree_size, trees_size, pairs_size, pair_list_size}
use Rattle.yaml_tree.specs.Valid.{values_of, pairs_of, content_under_tag}
use Rattle.yaml_tree.specs.View.{tree_of, trees_of}
use Rattle.yaml_write.specs.Adds.{KeepsEvents}
use Rattle.yaml_write.specs.Outcomes.{made}
use Rattle.yaml_write.specs.WrittenValue.{written_values}
use Rattle.yaml_write.proofs.ValueLaws.{written_list}
use Rattle.yaml_write.proofs.value.+write_value.Given as goal

abbrev pub decreases-write_value : goal.decreases-write_value
decreases-write_value g l = 3 * tree_size (tree_of l.value.now)

abbrev pub decreases-write_sequence : goal.decreases-write_sequence
decreases-write_sequence g l = 3 * trees_size (values_of l.values.now) + 2

abbrev pub decreases-write_values : goal.decreases-write_values
decreases-write_values g l = 3 * trees_size (values_of l.values.now) + 1

abbrev pub decreases-write_mapping : goal.decreases-write_mapping
decreases-write_mapping g l = 3 * pairs_size (pairs_of l.pairs.now) + 2

abbrev pub decreases-write_pairs : goal.decreases-write_pairs
decreases-write_pairs g l = 3 * pairs_size (pairs_of l.pairs.now) + 1

abbrev pub decreases-write_pair : goal.decreases-write_pair
decreases-write_pair g l = 3 * (tree_size (tree_of l.key.now) + tree_size (tree_of l.value.now)) + 1

abbrev pub decreases-write_tagged : goal.decreases-write_tagged
decreases-write_tagged g l = 3 * tree_size (content_under_tag l.tagged.now) + 1

abbrev pub invariant-write_values-loop-value : goal.invariant-write_values-loop-value
invariant-write_values-loop-value g l =
    (made (λ part. l.initial.out ++ emit_nodes_events part) (written_values (trees_of l.value-items))
    ≡ made (λ part. l.out ++ emit_nodes_events part) (written_values (trees_of (drop l.value-index l.value-items))))
    × KeepsEvents l.initial.out l.out

abbrev pub invariant-write_pairs-loop-key : goal.invariant-write_pairs-loop-key
invariant-write_pairs-loop-key g l =
    (made (λ part. l.initial.out ++ emit_pairs_events part) (written_list l.initial.key-iterator)
    ≡ made (λ part. l.out ++ emit_pairs_events part) (written_list l.key-iterator))
    × (pair_list_size l.key-iterator ≤ pairs_size (pairs_of l.pairs))
    × KeepsEvents l.initial.out l.out
