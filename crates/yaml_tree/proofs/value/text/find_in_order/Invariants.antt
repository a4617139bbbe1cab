-- The key is behind the entries so far, or nowhere.
use Rattle.std.proofs.Common.{◌≡◌, ◌+◌, drop, option_map}
use Rattle.yaml_tree.specs.Lookup.{place_of_key}
use Rattle.yaml_tree.specs.Tree.{string}
use Rattle.yaml_tree.specs.View.{entry_pairs}
use Rattle.yaml_tree.proofs.value.text.find_in_order.Given as goal

abbrev pub invariant-loop-i : goal.invariant-loop-i
invariant-loop-i l =
    place_of_key (string l.text) (entry_pairs l.entries)
    ≡ option_map (λ n. l.i + n) (place_of_key (string l.text) (entry_pairs (drop l.i l.entries)))
