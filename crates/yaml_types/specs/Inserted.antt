-- Pairs that are put into a map one after another.
use Rattle.std.specs.Prelude.{List, [], ◌∷◌}
use Rattle.std.specs.declared.cmp.Ordering.{Ordering}
use Rattle.std.specs.BTreeMap.{insert_entry}

-- the pairs of a map once each of these was put in, in order
abbrev pub inserted_pairs : {K V : Type 0} → (K → K → Ordering) → (before : List (K × V)) → List (K × V) → List (K × V)
inserted_pairs cmp before [] = before
inserted_pairs cmp before (p ∷ ps) = inserted_pairs cmp (insert_entry cmp before p.0 p.1) ps
