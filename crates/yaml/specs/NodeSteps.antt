-- A step that reads a node as a whole, and one that only looks.
use Rattle.std.specs.Prelude.{◌≡◌, ◌⊎◌, ℕ, List, Bool, false, Ok, Some}
use Rattle.yaml.specs.Around.{Standing, open_kind}
use Rattle.yaml.specs.Leaves.{leaf_shape, leaf_table}
use Rattle.yaml.specs.declared.frame.Kind.TheVariants.{Named}
use Rattle.yaml.specs.declared.leaf.Leaf.{Leaf}
use Rattle.yaml_read.specs.NodeReads.{NodeGives}
use Rattle.yaml_read.specs.Places.{Way}
use Rattle.yaml_read.specs.declared.node_place.NodePlace.{NodePlace}
use Rattle.yaml_shape.specs.PlainData.{PlainData, text_data, none_data, unit_data}

-- where the next node is read, and what is left of the limits there
abbrev pub node_at : Standing → NodePlace
node_at r = record {
  place = r.spot.place;
  nestings = r.spot.nestings;
  follows = r.follows;
  tag_taken = r.spot.taken;
}

-- the next node gives this data, and this place behind it
pub record Gave (leaf : Leaf) (r : Standing) (d : PlainData) (behind : NodePlace) : Type 0 where
  pub way : Way
  pub gives : NodeGives leaf_table (leaf_shape leaf) r.document way (node_at r) behind (Ok d)

-- behind what was read, with the same around it
abbrev pub gone_on : NodePlace → Standing → Standing
gone_on behind r = record r {
  spot = record r.spot { place = behind.place; taken = false; begun = false };
  follows = behind.follows;
}

-- the next node gave this data, and the reading goes on behind it
pub record Took (leaf : Leaf) (d : PlainData) (old new : Standing) : Type 0 where
  pub behind : NodePlace
  pub gave : Gave leaf old d behind
  pub goes_on : new ≡ gone_on behind old

-- a text was read, whether the source lends it or not
abbrev pub TookText : Leaf → List ℕ → Standing → Standing → Type 0
TookText leaf s old new = (lent : Bool) × Took leaf (text_data lent s) old new

-- nothing was read: the next node is null, or what comes next is the content of a variant that has none
abbrev pub TookNothing : Leaf → Standing → Standing → Type 0
TookNothing leaf old new =
    (Took leaf unit_data old new ⊎ Took leaf none_data old new) ⊎ ((new ≡ old) × (open_kind old ≡ Some Named))
