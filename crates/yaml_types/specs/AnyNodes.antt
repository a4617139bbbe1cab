-- Values of any kind that stand on a tape.
use Rattle.std.specs.Prelude.{ℕ, ◌≡◌}
use Rattle.yaml_shape.specs.PlainData.{PlainData, any_data}
use Rattle.yaml_shape.specs.PlainShape.{any_shape}
use Rattle.yaml_tape.specs.declared.tape.Tape.{Tape}
use Rattle.yaml_tree.specs.Tree.{Tree, Pairs, pair_list}
use Rattle.yaml_tree.specs.View.{tree_of}
use Rattle.yaml_tree.specs.declared.value.Value.{Value}
use Rattle.yaml_types.specs.NodeMeans.{Shaped, PairsMean, PairsFront}

-- the shape is that of any value
abbrev pub AnyShaped : Shaped
AnyShaped table s = s ≡ any_shape

-- the data is this value, or this tree of one
abbrev pub IsValue : PlainData → Value → Type 0
IsValue d v = d ≡ any_data (tree_of v)

abbrev pub IsTree : PlainData → Tree → Type 0
IsTree d t = d ≡ any_data t

-- between two places of the tape stand these pairs of a mapping, within so many nestings
abbrev pub ArePairs : Tape → (from to depth : ℕ) → Pairs → Type 0
ArePairs t from to depth ps = PairsMean AnyShaped AnyShaped IsTree IsTree t from to depth (pair_list ps)

-- what stands from a place on goes on these pairs
abbrev pub PairsBefore : Tape → (from place depth : ℕ) → Pairs → Type 0
PairsBefore t from place depth ps = PairsFront AnyShaped AnyShaped IsTree IsTree t from place depth (pair_list ps)
