-- A merged tree has no merge key.
use Rattle.std.proofs.Common.{◌≡◌, Bool, true, false, ◌||◌, if◌then◌else◌, is_some, refl}
use Rattle.std.proofs.Common.{List, [], ◌∷◌, ◌++◌}
use Rattle.yaml_base.specs.DocTree.{DocNode, nothing, reference, word, list, mapping, DocNodes, no_nodes, node}
use Rattle.yaml_base.specs.DocTree.{DocPairs, no_pairs, pair}
use Rattle.yaml_merge.specs.MergedTree.{Sameness, are_merging, given_mappings, has_merge_key, have_merge_keys}
use Rattle.yaml_merge.specs.MergedTree.{is_merge_key, joined, mappings_at, mappings_of, merged, merged_nodes}
use Rattle.yaml_merge.specs.MergedTree.{merged_pairs, missing, own_pairs, value_at, with_each, with_missing}
use Rattle.yaml_merge.proofs.MergedLaws.{left_false, right_false}

or_false : (a b : Bool) → a ≡ false → b ≡ false → (a || b) ≡ false
or_false true b h k = absurd cc
or_false false b h k = k

-- some key or value has a merge key within
abbrev within : DocPairs → Bool
within no_pairs = false
within (pair k v ps) = has_merge_key k || (has_merge_key v || within ps)

clean_joined : (ps qs : DocPairs) → are_merging ps ≡ false → are_merging qs ≡ false → are_merging (joined ps qs) ≡ false
clean_joined no_pairs qs h g = g
clean_joined (pair k v ps) qs h g =
    let rest = right_false (is_merge_key k) _ h in
    let more = right_false (has_merge_key k) _ rest in
    or_false (is_merge_key k) _ (left_false (is_merge_key k) _ h)
    (or_false (has_merge_key k) _ (left_false (has_merge_key k) _ rest)
    (or_false (has_merge_key v) _ (left_false (has_merge_key v) _ more)
    (clean_joined ps qs (right_false (has_merge_key v) _ more) g)))

clean_missing_if : (b : Bool) (k v : DocNode) (ps qs : DocPairs) → are_merging (pair k v qs) ≡ false
    → are_merging ps ≡ false → are_merging (if b then ps else pair k v ps) ≡ false
clean_missing_if true k v ps qs h g = g
clean_missing_if false k v ps qs h g =
    let rest = right_false (is_merge_key k) _ h in
    let more = right_false (has_merge_key k) _ rest in
    or_false (is_merge_key k) _ (left_false (is_merge_key k) _ h)
    (or_false (has_merge_key k) _ (left_false (has_merge_key k) _ rest)
    (or_false (has_merge_key v) _ (left_false (has_merge_key v) _ more) g))

behind : (k v : DocNode) (ps : DocPairs) → are_merging (pair k v ps) ≡ false → are_merging ps ≡ false
behind k v ps h =
    right_false (has_merge_key v) _ (right_false (has_merge_key k) _ (right_false (is_merge_key k) _ h))

clean_missing : (same : Sameness) (ps qs : DocPairs) → are_merging qs ≡ false → are_merging (missing same ps qs) ≡ false
clean_missing same ps no_pairs h = refl
clean_missing same ps (pair k v qs) h =
    clean_missing_if (is_some (value_at same k ps)) k v (missing same ps qs) qs h
    (clean_missing same ps qs (behind k v qs h))

-- no pair of the mappings is at a merge key or has one within
abbrev AreClean : List DocPairs → Type 0
AreClean [] = Unit {0}
AreClean (ps ∷ given) = (are_merging ps ≡ false) × AreClean given

clean_each : (same : Sameness) (given : List DocPairs) (ps : DocPairs) → are_merging ps ≡ false → AreClean given
    → are_merging (with_each same ps given) ≡ false
clean_each same [] ps h all = h
clean_each same (qs ∷ given) ps h all =
    clean_each same given (with_missing same ps qs)
    (clean_joined ps (missing same ps qs) h (clean_missing same ps qs all.0)) all.1

own_if : (b : Bool) (k v : DocNode) (ps own : DocPairs) → is_merge_key k ≡ b → has_merge_key k ≡ false
    → has_merge_key v ≡ false → are_merging own ≡ false → are_merging (if b then own else pair k v own) ≡ false
own_if true k v ps own is h g rest = rest
own_if false k v ps own is h g rest =
    or_false (is_merge_key k) _ is (or_false (has_merge_key k) _ h (or_false (has_merge_key v) _ g rest))

clean_own : (ps : DocPairs) → within ps ≡ false → are_merging (own_pairs ps) ≡ false
clean_own no_pairs h = refl
clean_own (pair k v ps) h =
    let rest = right_false (has_merge_key k) _ h in
    own_if (is_merge_key k) k v ps (own_pairs ps) refl (left_false (has_merge_key k) _ h)
    (left_false (has_merge_key v) _ rest) (clean_own ps (right_false (has_merge_key v) _ rest))

clean_of : (nodes : DocNodes) → have_merge_keys nodes ≡ false → AreClean (mappings_of nodes)
clean_of no_nodes h = tt
clean_of (node (mapping tag ps) nodes) h =
    (left_false (are_merging ps) _ h, clean_of nodes (right_false (are_merging ps) _ h))
clean_of (node nothing nodes) h = clean_of nodes h
clean_of (node (reference target) nodes) h = clean_of nodes h
clean_of (node (word s) nodes) h = clean_of nodes h
clean_of (node (list tag inner) nodes) h = clean_of nodes (right_false (have_merge_keys inner) _ h)

clean_at : (n : DocNode) → has_merge_key n ≡ false → AreClean (mappings_at n)
clean_at nothing h = tt
clean_at (reference target) h = tt
clean_at (word s) h = tt
clean_at (list tag nodes) h = clean_of nodes h
clean_at (mapping tag ps) h = (h, tt)

clean_both : (given more : List DocPairs) → AreClean given → AreClean more → AreClean (given ++ more)
clean_both [] more h g = g
clean_both (ps ∷ given) more h g = (h.0, clean_both given more h.1 g)

given_if : (b : Bool) (more given : List DocPairs) → AreClean more → AreClean given
    → AreClean (if b then more ++ given else given)
given_if true more given h g = clean_both more given h g
given_if false more given h g = g

clean_given : (ps : DocPairs) → within ps ≡ false → AreClean (given_mappings ps)
clean_given no_pairs h = tt
clean_given (pair k v ps) h =
    let rest = right_false (has_merge_key k) _ h in
    given_if (is_merge_key k) (mappings_at v) (given_mappings ps) (clean_at v (left_false (has_merge_key v) _ rest))
    (clean_given ps (right_false (has_merge_key v) _ rest))

mutual
  pub clean : (same : Sameness) (t : DocNode) → has_merge_key (merged same t) ≡ false
  clean same nothing = refl
  clean same (reference target) = refl
  clean same (word s) = refl
  clean same (list tag nodes) = nodes_clean same nodes
  clean same (mapping tag ps) =
      clean_each same (given_mappings (merged_pairs same ps)) (own_pairs (merged_pairs same ps))
      (clean_own (merged_pairs same ps) (pairs_clean same ps))
      (clean_given (merged_pairs same ps) (pairs_clean same ps))

  nodes_clean : (same : Sameness) (nodes : DocNodes) → have_merge_keys (merged_nodes same nodes) ≡ false
  nodes_clean same no_nodes = refl
  nodes_clean same (node n nodes) =
      or_false (has_merge_key (merged same n)) _ (clean same n) (nodes_clean same nodes)

  pairs_clean : (same : Sameness) (ps : DocPairs) → within (merged_pairs same ps) ≡ false
  pairs_clean same no_pairs = refl
  pairs_clean same (pair k v ps) =
      or_false (has_merge_key (merged same k)) _ (clean same k)
      (or_false (has_merge_key (merged same v)) _ (clean same v) (pairs_clean same ps))
