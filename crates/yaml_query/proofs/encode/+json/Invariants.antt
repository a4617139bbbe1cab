-- What is left is a part of the whole.
use Rattle.std.proofs.Common.{◌≡◌, ◌+◌, ◌*◌, drop, length}
use Rattle.yaml_query.specs.Out.{frame_in, tokens_in}
use Rattle.yaml_query.proofs.Rests.{pairs_behind}
use Rattle.yaml_query.proofs.Sizes.{items_size, pairs_size, size}
use Rattle.yaml_query.proofs.Written.{ArePairsLeft, IsLeft}
use Rattle.yaml_value.specs.View.{plain, plain_items, plain_pairs}
use Rattle.yaml_query.proofs.encode.+json.Given as goal

abbrev pub decreases-write_value : goal.decreases-write_value
decreases-write_value l = 2 * size (plain l.value.now)

abbrev pub decreases-write_array : goal.decreases-write_array
decreases-write_array l = 2 * items_size (plain_items l.items.now) + 3

abbrev pub decreases-write_items : goal.decreases-write_items
decreases-write_items l = 2 * items_size (plain_items l.items.now) + 2

abbrev pub decreases-write_item : goal.decreases-write_item
decreases-write_item l = 2 * size (plain l.value.now) + 1

abbrev pub decreases-write_object : goal.decreases-write_object
decreases-write_object l = 2 * pairs_size (plain_pairs l.mapping.now) + 3

abbrev pub decreases-write_pairs : goal.decreases-write_pairs
decreases-write_pairs l = 2 * pairs_size (plain_pairs l.mapping.now) + 2

abbrev pub decreases-write_pair : goal.decreases-write_pair
decreases-write_pair l = 2 * size (plain l.value.now) + 2

abbrev pub decreases-write_member : goal.decreases-write_member
decreases-write_member l = 2 * size (plain l.value.now) + 1

abbrev pub invariant-write_items-loop-i : goal.invariant-write_items-loop-i
invariant-write_items-loop-i l =
    IsLeft (plain_items l.items) (plain_items (drop l.i l.items)) l.i (tokens_in l.initial.out) (tokens_in l.out)
    × (frame_in l.out ≡ frame_in l.initial.out)

abbrev pub invariant-write_pairs-loop-entry : goal.invariant-write_pairs-loop-entry
invariant-write_pairs-loop-entry l =
    ArePairsLeft (plain_pairs l.mapping) (pairs_behind (length l.yielded) (plain_pairs l.mapping))
    (tokens_in l.initial.out) (tokens_in l.out)
    × (frame_in l.out ≡ frame_in l.initial.out)
