-- The key is behind the entries so far, or nowhere.
use Rattle.std.proofs.Common.{◌≡◌, ◌+◌, drop, option_map}
use Rattle.yaml_value.specs.Find.{place_where}
use Rattle.yaml_value.specs.PlainEqual.{plain_eq}
use Rattle.yaml_value.specs.View.{entry_pairs, plain}
use Rattle.yaml_value.proofs.value.equal.place_in_order.Given as goal

abbrev pub invariant-loop-i : goal.invariant-loop-i
invariant-loop-i l =
    place_where (plain_eq (plain l.key)) (entry_pairs l.entries)
    ≡ option_map (λ n. l.i + n) (place_where (plain_eq (plain l.key)) (entry_pairs (drop l.i l.entries)))
