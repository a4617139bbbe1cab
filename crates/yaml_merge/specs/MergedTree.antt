-- What a tree is once its merge keys are applied, where no alias stands in it, and no merge key within a key.
use Rattle.std.specs.Prelude.{◌≡◌, Bool, true, false, ◌||◌, if◌then◌else◌, Option, Some, None, is_some}
use Rattle.std.specs.Prelude.{List, [], ◌∷◌, ◌++◌}
use Rattle.yaml_base.specs.DocTree.{DocNode, list, mapping, DocNodes, no_nodes, node, DocPairs, no_pairs, pair}
use Rattle.yaml_base.specs.DocTree.{first_event}
use Rattle.yaml_merge.specs.MergeKeys.{is_merge_word}

-- whether two keys are the same
abbrev pub Sameness : Type 0
Sameness = DocNode → DocNode → Bool

-- the key is a merge key
abbrev pub is_merge_key : DocNode → Bool
is_merge_key key = is_merge_word (first_event key)

-- the pairs, and others behind them
abbrev pub joined : DocPairs → DocPairs → DocPairs
joined no_pairs qs = qs
joined (pair k v ps) qs = pair k v (joined ps qs)

-- the value of the first pair that has the key
abbrev pub value_at : Sameness → (key : DocNode) → DocPairs → Option DocNode
value_at same k no_pairs = None
value_at same k (pair l w ps) = if same k l then Some w else value_at same k ps

-- the pairs whose keys are not there, among these
abbrev pub missing : Sameness → (there : DocPairs) → DocPairs → DocPairs
missing same there no_pairs = no_pairs
missing same there (pair k v ps) =
    if is_some (value_at same k there) then missing same there ps else pair k v (missing same there ps)

-- the pairs, and behind them those of another mapping whose keys are not there
abbrev pub with_missing : Sameness → DocPairs → DocPairs → DocPairs
with_missing same ps qs = joined ps (missing same ps qs)

-- the pairs, with those of one mapping after the other
abbrev pub with_each : Sameness → DocPairs → List DocPairs → DocPairs
with_each same ps [] = ps
with_each same ps (qs ∷ given) = with_each same (with_missing same ps qs) given

-- the pairs of each mapping of a list, in order
abbrev pub mappings_of : DocNodes → List DocPairs
mappings_of no_nodes = []
mappings_of (node (mapping tag ps) nodes) = ps ∷ mappings_of nodes
mappings_of (node n nodes) = mappings_of nodes

-- the pairs of the mapping, or of each mapping of the list, that stands at a merge key
abbrev pub mappings_at : DocNode → List DocPairs
mappings_at (mapping tag ps) = ps ∷ []
mappings_at (list tag nodes) = mappings_of nodes
mappings_at n = []

-- the pairs at no merge key
abbrev pub own_pairs : DocPairs → DocPairs
own_pairs no_pairs = no_pairs
own_pairs (pair k v ps) = if is_merge_key k then own_pairs ps else pair k v (own_pairs ps)

-- the pairs of the mappings that merge keys give, mapping by mapping
abbrev pub given_mappings : DocPairs → List DocPairs
given_mappings no_pairs = []
given_mappings (pair k v ps) = if is_merge_key k then mappings_at v ++ given_mappings ps else given_mappings ps

-- A mapping's pairs once its own merge keys are applied, where those within it are: its own, and behind them, mapping
-- after mapping, those whose keys are not there yet.
abbrev pub applied : Sameness → DocPairs → DocPairs
applied same ps = with_each same (own_pairs ps) (given_mappings ps)

abbrev mutual
  -- the tree once each merge key is applied, those within a mapping before its own
  pub merged : Sameness → DocNode → DocNode
  merged same (list tag nodes) = list tag (merged_nodes same nodes)
  merged same (mapping tag ps) = mapping tag (applied same (merged_pairs same ps))
  merged same n = n

  pub merged_nodes : Sameness → DocNodes → DocNodes
  merged_nodes same no_nodes = no_nodes
  merged_nodes same (node n nodes) = node (merged same n) (merged_nodes same nodes)

  pub merged_pairs : Sameness → DocPairs → DocPairs
  merged_pairs same no_pairs = no_pairs
  merged_pairs same (pair k v ps) = pair (merged same k) (merged same v) (merged_pairs same ps)

abbrev mutual
  -- there is a merge key in the tree
  pub has_merge_key : DocNode → Bool
  has_merge_key (list tag nodes) = have_merge_keys nodes
  has_merge_key (mapping tag ps) = are_merging ps
  has_merge_key n = false

  pub have_merge_keys : DocNodes → Bool
  have_merge_keys no_nodes = false
  have_merge_keys (node n nodes) = has_merge_key n || have_merge_keys nodes

  pub are_merging : DocPairs → Bool
  are_merging no_pairs = false
  are_merging (pair k v ps) = is_merge_key k || (has_merge_key k || (has_merge_key v || are_merging ps))

-- which keys are the same goes both ways, and on
pub record IsEquivalence (same : Sameness) : Type 0 where
  pub back : (k l : DocNode) → same k l ≡ true → same l k ≡ true
  pub on : (k l m : DocNode) → same k l ≡ true → same l m ≡ true → same k m ≡ true

-- the first value, or else the second
abbrev pub first_of : Option DocNode → Option DocNode → Option DocNode
first_of (Some v) w = Some v
first_of None w = w

-- the value in the first mapping that has the key
abbrev pub first_value_at : Sameness → (key : DocNode) → List DocPairs → Option DocNode
first_value_at same k [] = None
first_value_at same k (ps ∷ given) = first_of (value_at same k ps) (first_value_at same k given)

-- no pair of the list has the key of one before it
abbrev pub stand_once : Sameness → DocPairs → Type 0
stand_once same no_pairs = Unit {0}
stand_once same (pair k v ps) = (value_at same k ps ≡ None) × stand_once same ps

-- so it is in each of these mappings
abbrev pub each_stand_once : Sameness → List DocPairs → Type 0
each_stand_once same [] = Unit {0}
each_stand_once same (ps ∷ given) = stand_once same ps × each_stand_once same given
