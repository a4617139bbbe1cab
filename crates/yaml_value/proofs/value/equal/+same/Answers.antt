-- Comparing by lengths, place by place, and by places of keys.
use Rattle.std.proofs.Common.{◌≡◌, ◌-◌, ◌<◌, ◌≤◌, ap, arith, length, sym, ◌∙◌, subst, true, false}
use Rattle.std.specs.Prelude.{option_and_then}
use Rattle.yaml_tree.specs.Index.{chain_count}
use Rattle.yaml_value.specs.Hash.{hash_of}
use Rattle.yaml_value.specs.Find.{is_key_at, value_in_place}
use Rattle.yaml_value.specs.PlainEqual.{items_eq, pairs_eq, plain_eq}
use Rattle.yaml_value.specs.View.{entry_pairs, is_distinct-plain, plain, plain_entry, plain_items}
use Rattle.yaml_value.proofs.Equals.{has_all_pairs-step, has_pair-step, has_pair-value, is_key_at-entry, is_value_equal}
use Rattle.yaml_value.proofs.Equals.{items_eq-lengths, items_eq-step, pairs_eq-lengths, pairs_eq-same_length}
use Rattle.yaml_value.proofs.Indexed.{IsAbsentFrom, IsSought, chain_end-le, place-absent, place-found, sought-end}
use Rattle.yaml_value.proofs.Indexed.{sought-next}
use Rattle.yaml_value.proofs.Views.{items_of-view, pairs_of-view, value_in_place-at, value_where-place}
use Rattle.yaml_value.proofs.value.equal.+same.Goals as goal

pub has_all_entries-returns-then-not-is_among : goal.has_all_entries-returns-then-not-is_among
has_all_entries-returns-then-not-is_among t c =
    sym (c.loop-i.invariant
    ∙ has_all_pairs-step c.args.wanted.now (entry_pairs c.args.entries.now) c.loop-i.i c.index-wanted-i.result false
    c.loop-i-test.true c.index-wanted-i.is (sym c.is_among.ensures ∙ c.if-not-is_among.true))

pub has_all_entries-loop-i-preserved : goal.has_all_entries-loop-i-preserved
has_all_entries-loop-i-preserved t c =
    c.loop-i.invariant
    ∙ has_all_pairs-step c.args.wanted.now (entry_pairs c.args.entries.now) c.loop-i.i c.index-wanted-i.result true
    c.loop-i-test.true c.index-wanted-i.is (sym c.is_among.ensures ∙ c.if-not-is_among.false)

pub is_among_few-returns-then-same_entry : goal.is_among_few-returns-then-same_entry
is_among_few-returns-then-same_entry t c =
    sym (c.loop-i.invariant
    ∙ has_pair-step (plain_entry c.args.wanted.now) c.args.entries.now c.loop-i.i c.index-entries-i.result true
    c.loop-i-test.true c.index-entries-i.is (sym c.same_entry.ensures ∙ c.if-same_entry.true))

pub is_among_few-loop-i-preserved : goal.is_among_few-loop-i-preserved
is_among_few-loop-i-preserved t c =
    c.loop-i.invariant
    ∙ has_pair-step (plain_entry c.args.wanted.now) c.args.entries.now c.loop-i.i c.index-entries-i.result false
    c.loop-i-test.true c.index-entries-i.is (sym c.same_entry.ensures ∙ c.if-same_entry.false)

pub is_among_many-returns-in-Some : goal.is_among_many-returns-in-Some
is_among_many-returns-in-Some t c =
    let es = c.args.entries.now in
    let ps = entry_pairs es in
    let w = c.args.wanted.now in
    let k = plain w.key in
    let d = c.index-entries-place.result in
    let at = sym (value_where-place (plain_eq k) ps)
    ∙ (ap (option_and_then (λ i. value_in_place i ps)) (sym c.in-Some.ensures.place)
    ∙ value_in_place-at es c.in-Some.place d c.in-Some.ensures.within c.index-entries-place.is) in
    c.same_value.ensures
    ∙ (ap (λ e. plain_eq (plain w.value) (plain e.value)) (sym c.index-entries-place.is)
    ∙ sym (has_pair-value k (plain w.value) ps (is_distinct-plain w.key) c.requires.sound.1
    ∙ ap (is_value_equal (plain w.value)) at))

pub is_among_many-returns-in-None : goal.is_among_many-returns-in-None
is_among_many-returns-in-None t c =
    let ps = entry_pairs c.args.entries.now in
    let w = c.args.wanted.now in
    let k = plain w.key in
    let at = sym (value_where-place (plain_eq k) ps)
    ∙ ap (option_and_then (λ i. value_in_place i ps)) (sym c.in-None.ensures.place) in
    sym (has_pair-value k (plain w.value) ps (is_distinct-plain w.key) c.requires.sound.1
    ∙ ap (is_value_equal (plain w.value)) at)

pub place_in_chain-returns-then-same_value-clause-place : goal.place_in_chain-returns-then-same_value-clause-place
place_in_chain-returns-then-same_value-clause-place t c =
    let k = plain c.args.key.now in
    let es = c.args.entries.now in
    let place = c.loop-turn.left - 1 in
    let here : is_key_at k place (entry_pairs es) ≡ true =
    is_key_at-entry k es place c.index-entries-place.result c.if-place-entries.false c.index-entries-place.is
    ∙ (ap (λ e. plain_eq k (plain e.key)) c.index-entries-place.is ∙ (sym c.same_value.ensures
    ∙ c.if-same_value.true)) in
    sym (place-found k (entry_pairs es) place (is_distinct-plain c.args.key.now) c.requires.sound.1 here)

pub place_in_chain-loop-turn-init : goal.place_in_chain-loop-turn-init
place_in_chain-loop-turn-init t c =
    let k = plain c.args.key.now in
    let es = c.args.entries.now in (
      subst (IsSought (chain_count (length es)) k (entry_pairs es)) (sym c.requires.first)
          (sought-end k es (is_distinct-plain c.args.key.now)),
      omega (arith, c.requires.first, chain_end-le (hash_of k) es),
    )

pub place_in_chain-returns-then-left-eq0-clause-place : goal.place_in_chain-returns-then-left-eq0-clause-place
place_in_chain-returns-then-left-eq0-clause-place t c =
    let k = plain c.args.key.now in
    let ps = entry_pairs c.args.entries.now in
    sym (place-absent k ps (subst (IsAbsentFrom k ps) c.if-left-eq0.true c.loop-turn.invariant.0.2))

pub place_in_chain-returns-then-place-entries-clause-place : goal.place_in_chain-returns-then-place-entries-clause-place
place_in_chain-returns-then-place-entries-clause-place t c =
    absurd (omega (arith, c.loop-turn.invariant.1, c.if-place-entries.true, c.if-left-eq0.false))

pub place_in_chain-loop-turn-preserved : goal.place_in_chain-loop-turn-preserved
place_in_chain-loop-turn-preserved t c =
    let k = plain c.args.key.now in
    let es = c.args.entries.now in
    let left = c.loop-turn.left in
    let so_far = c.loop-turn.invariant in
    let within : left ≤ length es = omega (arith, so_far.1) in
    let other : is_key_at k (left - 1) (entry_pairs es) ≡ false =
    is_key_at-entry k es (left - 1) c.index-entries-place.result c.if-place-entries.false c.index-entries-place.is
    ∙ (ap (λ e. plain_eq k (plain e.key)) c.index-entries-place.is ∙ (sym c.same_value.ensures
    ∙ c.if-same_value.false)) in
    let next = sought-next (chain_count (length es)) left k es (is_distinct-plain c.args.key.now)
    (omega (arith, c.if-left-eq0.false)) within (c.requires.sound.0 c.requires.some).1 other so_far.0 in (
      subst (IsSought (chain_count (length es)) k (entry_pairs es)) (sym c.earlier_at-left.ensures) next.0,
      omega (arith, next.1, so_far.1, c.earlier_at-left.ensures),
    )

pub place_in_chain-returns-clause-place : goal.place_in_chain-returns-clause-place
place_in_chain-returns-clause-place t c =
    let k = plain c.args.key.now in
    let ps = entry_pairs c.args.entries.now in
    let so_far = c.loop-turn.invariant in
    let none : c.loop-turn.left ≡ 0 = omega (arith, so_far.1, c.loop-turn-test.false) in
    sym (place-absent k ps (subst (IsAbsentFrom k ps) none so_far.0.2))

pub same_items-returns-then-left-right : goal.same_items-returns-then-left-right
same_items-returns-then-left-right t c =
    let left = ap plain_items c.as_slice-left.ensures.value ∙ items_of-view _ _ c.a.view_is in
    let right = ap plain_items c.as_slice-right.ensures.value ∙ items_of-view _ _ c.b.view_is in
    sym (items_eq-lengths _ _ c.if-left-right.true) ∙ (λ j. items_eq (left j) (right j))

pub same_items-returns-then-not-same_value : goal.same_items-returns-then-not-same_value
same_items-returns-then-not-same_value t c =
    let left = ap plain_items c.as_slice-left.ensures.value ∙ items_of-view _ _ c.a.view_is in
    let right = ap plain_items c.as_slice-right.ensures.value ∙ items_of-view _ _ c.b.view_is in
    let ys = c.as_slice-right.result.now in
    let i = c.loop-i.i in
    let within : i < length ys = omega (arith, c.loop-i-test.true, c.if-left-right.false) in
    sym (c.loop-i.invariant
    ∙ items_eq-step c.as_slice-left.result.now ys i c.index-left-i.result c.index-right-i.result false
    c.loop-i-test.true within c.index-left-i.is c.index-right-i.is
    (sym c.same_value.ensures ∙ c.if-not-same_value.true))
    ∙ (λ j. items_eq (left j) (right j))

pub same_pairs-returns-then-wanted-entries : goal.same_pairs-returns-then-wanted-entries
same_pairs-returns-then-wanted-entries t c =
    let left = ap entry_pairs c.as_slice-wanted.ensures.value
    ∙ pairs_of-view c.a.inside.entries.items c.args.a.now c.a.view_is c.a.invariant.1 in
    let right = ap entry_pairs c.as_slice-entries.ensures.value
    ∙ pairs_of-view c.b.inside.entries.items c.args.b.now c.b.view_is c.b.invariant.1 in
    sym (pairs_eq-lengths _ _ c.if-wanted-entries.true) ∙ (λ j. pairs_eq (left j) (right j))

pub same_pairs-returns : goal.same_pairs-returns
same_pairs-returns t c =
    let left = ap entry_pairs c.as_slice-wanted.ensures.value
    ∙ pairs_of-view c.a.inside.entries.items c.args.a.now c.a.view_is c.a.invariant.1 in
    let right = ap entry_pairs c.as_slice-entries.ensures.value
    ∙ pairs_of-view c.b.inside.entries.items c.args.b.now c.b.view_is c.b.invariant.1 in
    c.has_all_entries.ensures
    ∙ (sym (pairs_eq-same_length _ _ c.if-wanted-entries.false) ∙ (λ j. pairs_eq (left j) (right j)))
