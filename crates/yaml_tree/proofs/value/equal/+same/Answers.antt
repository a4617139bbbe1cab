-- Comparing by lengths, by places of keys, and by what the views say.
use Rattle.std.proofs.Common.{◌≡◌, ℕ, ◌-◌, ◌<◌, ap, arith, sym, ◌∙◌, subst, refl, Some, None}
use Rattle.yaml_tree.specs.Equal.{tree_eq, trees_eq, pairs_eq}
use Rattle.yaml_tree.specs.Mapping.{keys_distinct}
use Rattle.yaml_tree.specs.View.{tree_of, trees_of, entry_pairs}
use Rattle.yaml_tree.proofs.Indexed.{IsAbsentFrom, IsSought, sought-first, sought-next, other_key_here}
use Rattle.yaml_tree.proofs.Indexed.{place_of_key-absent}
use Rattle.yaml_tree.proofs.Lookups.{holds_at_found, is_value_equal, has_pair-value_at, place_of_key-guess}
use Rattle.yaml_tree.proofs.Views.{values_of-view, pairs_of-view, trees_eq-lengths, pairs_eq-lengths, pairs_eq-entries}
use Rattle.yaml_tree.proofs.value.equal.+same.Goals as goal

pub find_near-returns-then-same_value-clause-place : goal.find_near-returns-then-same_value-clause-place
find_near-returns-then-same_value-clause-place t c =
    let k = tree_of c.args.key.now in
    sym (place_of_key-guess k c.args.entries.now c.args.guess c.index-entries-guess.result
    c.requires.distinct c.if-guess-entries.false (sym c.same_value.ensures ∙ c.if-same_value.true))

pub is_among-returns-in-Some : goal.is_among-returns-in-Some
is_among-returns-in-Some t c =
    let k = tree_of c.args.wanted.now.key in
    let v = tree_of c.args.wanted.now.value in
    let es = c.args.entries.now in
    let held = holds_at_found k es es (Some c.in-Some.i) refl c.in-Some.ensures.place in
    c.same_value.ensures
    ∙ sym (has_pair-value_at k v (entry_pairs es) c.requires.distinct
    ∙ ap (is_value_equal v) (held c.index-entries-i.result).0)

pub is_among-returns-in-None : goal.is_among-returns-in-None
is_among-returns-in-None t c =
    let k = tree_of c.args.wanted.now.key in
    let v = tree_of c.args.wanted.now.value in
    let es = c.args.entries.now in
    let held = holds_at_found k es es None refl c.in-None.ensures.place in
    sym (has_pair-value_at k v (entry_pairs es) c.requires.distinct ∙ ap (is_value_equal v) held.0)

pub same_items-returns-then-left-right : goal.same_items-returns-then-left-right
same_items-returns-then-left-right t c =
    let left = ap trees_of c.as_slice-left.ensures.value ∙ values_of-view _ _ c.a.view_is in
    let right = ap trees_of c.as_slice-right.ensures.value ∙ values_of-view _ _ c.b.view_is in
    sym (trees_eq-lengths _ _ c.if-left-right.true) ∙ (λ i. trees_eq (left i) (right i))

pub same_pairs-returns-then-wanted-entries : goal.same_pairs-returns-then-wanted-entries
same_pairs-returns-then-wanted-entries t c =
    let left = ap entry_pairs c.as_slice-wanted.ensures.value ∙ pairs_of-view _ _ c.a.view_is c.a.invariant.0 in
    let right = ap entry_pairs c.as_slice-entries.ensures.value ∙ pairs_of-view _ _ c.b.view_is c.b.invariant.0 in
    sym (pairs_eq-lengths _ _ c.if-wanted-entries.true) ∙ (λ i. pairs_eq (left i) (right i))

pub same_pairs-returns : goal.same_pairs-returns
same_pairs-returns t c =
    let left = ap entry_pairs c.as_slice-wanted.ensures.value ∙ pairs_of-view _ _ c.a.view_is c.a.invariant.0 in
    let right = ap entry_pairs c.as_slice-entries.ensures.value ∙ pairs_of-view _ _ c.b.view_is c.b.invariant.0 in
    let distinct = ap (λ es. keys_distinct (entry_pairs es)) c.as_slice-wanted.ensures.value ∙ c.a.invariant.0 in
    c.has_all_entries.ensures
    ∙ (sym (pairs_eq-entries _ _ distinct c.if-wanted-entries.false) ∙ (λ i. pairs_eq (left i) (right i)))

pub find_in_chain-loop-left-init : goal.find_in_chain-loop-left-init
find_in_chain-loop-left-init t c =
    sought-first c.args.chains c.chain_of.result (tree_of c.args.key.now) c.args.entries.now
    c.index-entries-chain_of.result c.chain_of.ensures.value c.chain_of.ensures.within c.requires.within
    c.requires.chained

pub find_in_chain-returns-then-same_value-clause-place : goal.find_in_chain-returns-then-same_value-clause-place
find_in_chain-returns-then-same_value-clause-place t c =
    let k = tree_of c.args.key.now in
    let es = c.args.entries.now in
    let left = c.loop-left.left in
    let d = c.index-entries-place.result in
    sym (place_of_key-guess k es (left - 1) d c.requires.distinct
    (omega (arith, c.loop-left-test.true, c.loop-left.invariant.1))
    (ap (λ e. tree_eq k (tree_of e.key)) (sym c.index-entries-place.is)
    ∙ (sym c.same_value.ensures ∙ c.if-same_value.true)))

-- the place before in the chain is where to go on
next : (t : ℕ) (c : goal.find_in_chain-Joined-else-place-other t)
    → IsSought c.args.chains (tree_of c.args.key.now) c.args.entries.now c.index-entries-place.result.earlier
    × (c.index-entries-place.result.earlier < c.loop-left.left)
next t c =
    let k = tree_of c.args.key.now in
    let es = c.args.entries.now in
    let left = c.loop-left.left in
    let d = c.index-entries-place.result in
    sought-next c.args.chains left k es d c.loop-left-test.true c.requires.chained c.index-entries-place.is
    (elim c.else-place-other.branch [
      | goal.find_in_chain-else-place-other-via-then-place-other+else-same_value w ↦
          sym w.same_value.ensures ∙ w.if-same_value.false
      | goal.find_in_chain-else-place-other-via-else-place-other w ↦
          other_key_here k es (left - 1) c.args.other d c.index-entries-place.is w.if-place-other.false
          (omega (arith, c.loop-left-test.true, c.loop-left.invariant.1)) c.requires.other
    ]) c.loop-left.invariant

pub find_in_chain-loop-left-smaller : goal.find_in_chain-loop-left-smaller
find_in_chain-loop-left-smaller t c = (next t c).1

pub find_in_chain-loop-left-preserved : goal.find_in_chain-loop-left-preserved
find_in_chain-loop-left-preserved t c = (next t c).0

pub find_in_chain-returns-clause-place : goal.find_in_chain-returns-clause-place
find_in_chain-returns-clause-place t c =
    let k = tree_of c.args.key.now in
    let es = c.args.entries.now in
    let none : c.loop-left.left ≡ 0 = omega (arith, c.loop-left-test.false) in
    sym (place_of_key-absent k es (subst (IsAbsentFrom k es) none c.loop-left.invariant.2))
