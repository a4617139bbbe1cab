-- Each turn merges within one value more.
use Rattle.std.proofs.Common.{◌≡◌, ◌+◌, ◌-◌, ap, arith, false, refl, rules, subst, sym, Some, ◌∙◌}
use Rattle.yaml_base.specs.Answer.{is_memory}
use Rattle.yaml_value.specs.Distinct.{distinct_pairs}
use Rattle.yaml_value.specs.Find.{with_value}
use Rattle.yaml_value.specs.Merge.{Leaves, each_item, each_value, merged, own_merged, then_left, with_item_at}
use Rattle.yaml_value.specs.PlainValue.{tagged}
use Rattle.yaml_value.specs.View.{are_pairs_distinct-entry_pairs, entry_pairs, plain, plain_entry, plain_items}
use Rattle.yaml_value.specs.View.{plain_pairs, plain_tagged}
use Rattle.yaml_value.proofs.Indexed.{sound-put}
use Rattle.yaml_value.proofs.Merges.{items_end, items_from, items_on, items_stop, left_of_mapping}
use Rattle.yaml_value.proofs.Merges.{left_of_sequence, left_of_tagged, plain_items-set}
use Rattle.yaml_value.proofs.Merges.{values_end, values_from, values_on, values_stop}
use Rattle.yaml_value.proofs.Views.{entry_pairs-put, item_in_place-at, pair_count-entries, pairs_of-view}
use Rattle.yaml_value.proofs.Views.{value_in_place-at, view-entries}
use Rattle.yaml_value.proofs.value.merge.+merge.Goals as goal

pub merge_pair-returns-clause-value : goal.merge_pair-returns-clause-value
merge_pair-returns-clause-value t c =
    let es = c.args.entries.now.items in
    let d = c.index_mut.result.now in
    let e = c.merge_entry.new.entry in
    let key = c.merge_entry.ensures.key ∙ ap (λ x. (plain_entry x).0) c.index_mut.ensures.value in (
      (plain_entry d).1,
      (plain_entry e).1,
      value_in_place-at es c.args.i d c.requires c.index_mut.ensures.value,
      entry_pairs-put es c.args.i e d (plain_entry e).1 (λ j. (key j, (plain_entry e).1)),
      c.merge_entry.ensures.value,
    )

pub merge_pair-returns-clause-sound : goal.merge_pair-returns-clause-sound
merge_pair-returns-clause-sound t c = λ sound.
    sound-put c.args.entries.now.items c.args.i c.merge_entry.new.entry c.index_mut.result.now
    c.index_mut.ensures.value c.merge_entry.ensures.key c.merge_entry.ensures.last c.merge_entry.ensures.earlier sound

pub merge_item-returns-clause-value : goal.merge_item-returns-clause-value
merge_item-returns-clause-value t c =
    let vs = c.args.items.now.items in
    let v = c.index_mut.result.now in
    let w = c.merge_value.new.value in (
      plain v,
      plain w,
      item_in_place-at vs c.args.i v c.requires c.index_mut.ensures.value,
      plain_items-set vs c.args.i w,
      c.merge_value.ensures,
    )

pub merge_entries-loop-i-preserved : goal.merge_entries-loop-i-preserved
merge_entries-loop-i-preserved t c =
    let f = merged c.args.nestings in
    let i = c.loop-i.i in
    let now = entry_pairs c.loop-i.entries.items in
    let h = c.in_ok-merge_pair.ensures.value in
    let so_far = c.loop-i.invariant in (
      c.in_ok-merge_pair.ensures.count ∙ so_far.0,
      so_far.1
          ∙ (values_on i f now h.0 h.2 (ap (λ l. l.1) h.4)
          ∙ ap (values_from (i + 1) f) (ap (λ l. with_value i l.0 now) h.4 ∙ sym h.3)),
      λ sound. c.in_ok-merge_pair.ensures.sound (so_far.2 sound),
    )

pub merge_entries-returns-clause-left : goal.merge_entries-returns-clause-left
merge_entries-returns-clause-left t c =
    let es = c.loop-i.entries.items in
    c.loop-i.invariant.1
    ∙ values_end c.loop-i.i (merged c.args.nestings) (entry_pairs es)
    (omega (arith, c.loop-i-test.false, c.loop-i.invariant.0, pair_count-entries es))

pub merge_entries-returns-in_err-merge_pair-clause-left : goal.merge_entries-returns-in_err-merge_pair-clause-left
merge_entries-returns-in_err-merge_pair-clause-left t c =
    let f = merged c.args.nestings in
    let i = c.loop-i.i in
    let now = entry_pairs c.loop-i.entries.items in
    let h = c.in_err-merge_pair.ensures.value in
    let fault = c.in_err-merge_pair.field-0.0 in
    let told : is_memory fault ≡ false → each_value f (entry_pairs c.args.entries.now.items)
    ≡ (entry_pairs c.merge_pair.new.entries.items, Some fault) = λ e.
    c.loop-i.invariant.1
    ∙ (values_stop i f now h.0 fault h.2 (ap (λ l. l.1) (h.4 e))
    ∙ ap (λ ps. (ps, Some fault)) (ap (λ l. with_value i l.0 now) (h.4 e) ∙ sym h.3)) in
    search (rules, told)

pub merge_entries-returns-in_err-merge_pair-clause-sound : goal.merge_entries-returns-in_err-merge_pair-clause-sound
merge_entries-returns-in_err-merge_pair-clause-sound t c = λ sound.
    c.in_err-merge_pair.ensures.sound (c.loop-i.invariant.2 sound)

pub merge_items-loop-i-preserved : goal.merge_items-loop-i-preserved
merge_items-loop-i-preserved t c =
    let f = merged c.args.nestings in
    let i = c.loop-i.i in
    let now = plain_items c.loop-i.items.items in
    let h = c.in_ok-merge_item.ensures.value in (
      c.in_ok-merge_item.ensures.count ∙ c.loop-i.invariant.0,
      c.loop-i.invariant.1
          ∙ (items_on i f now h.0 h.2 (ap (λ l. l.1) h.4)
          ∙ ap (items_from (i + 1) f) (ap (λ l. with_item_at i l.0 now) h.4 ∙ sym h.3)),
    )

pub merge_items-returns : goal.merge_items-returns
merge_items-returns t c =
    let vs = c.loop-i.items.items in
    c.loop-i.invariant.1
    ∙ items_end c.loop-i.i (merged c.args.nestings) vs (omega (arith, c.loop-i-test.false, c.loop-i.invariant.0))

pub merge_items-returns-in_err-merge_item : goal.merge_items-returns-in_err-merge_item
merge_items-returns-in_err-merge_item t c =
    let f = merged c.args.nestings in
    let i = c.loop-i.i in
    let now = plain_items c.loop-i.items.items in
    let h = c.in_err-merge_item.ensures.value in
    let fault = c.in_err-merge_item.field-0.0 in
    let told : is_memory fault ≡ false → each_item f (plain_items c.args.items.now.items)
    ≡ (plain_items c.merge_item.new.items.items, Some fault) = λ e.
    c.loop-i.invariant.1
    ∙ (items_stop i f now h.0 fault h.2 (ap (λ l. l.1) (h.4 e))
    ∙ ap (λ vs. (vs, Some fault)) (ap (λ l. with_item_at i l.0 now) (h.4 e) ∙ sym h.3)) in
    search (rules, told)

pub merge_mapping-returns-in_err-merge_own : goal.merge_mapping-returns-in_err-merge_own
merge_mapping-returns-in_err-merge_own t c =
    let f = merged c.args.nestings in
    let old = plain_pairs c.args.mapping.now in
    let fault = c.in_err-merge_own.field-0.0 in
    let told : is_memory fault ≡ false → then_left (own_merged old) (each_value f)
    ≡ (plain_pairs c.merge_own.new.mapping, Some fault) = λ e.
    ap (λ l. then_left l (each_value f)) (c.in_err-merge_own.ensures e) in
    search (rules, told)

pub merge_mapping-returns : goal.merge_mapping-returns
merge_mapping-returns t c =
    let f = merged c.args.nestings in
    subst (λ l. Leaves c.merge_values.result (plain_pairs c.merge_values.new.mapping) (then_left l (each_value f)))
    (sym c.in_ok-merge_own.ensures) c.merge_values.ensures

pub merge_values-invariant_of-mapping : goal.merge_values-invariant_of-mapping
merge_values-invariant_of-mapping t c = c.merge_entries.ensures.sound c.mapping.invariant

pub merge_values-returns : goal.merge_values-returns
merge_values-returns t c =
    let es = c.mapping.inside.entries.items in
    let fs = c.merge_entries.new.entries.items in
    let f = merged c.args.nestings in
    let r = c.merge_entries.result in
    let old = pairs_of-view es c.args.mapping.now c.mapping.view_is c.mapping.invariant.1 in
    let new = view-entries fs (c.merge_entries.ensures.sound c.mapping.invariant).1 in
    let left : Leaves r (entry_pairs fs) (each_value f (entry_pairs es)) = c.merge_entries.ensures.left in
    subst (λ ps. Leaves r (plain_pairs (distinct_pairs (entry_pairs fs) (are_pairs_distinct-entry_pairs fs)))
    (each_value f ps)) old
    (subst (λ qs. Leaves r qs (each_value f (entry_pairs es))) (sym new) left)

pub merge_value-returns-in-Mapping : goal.merge_value-returns-in-Mapping
merge_value-returns-in-Mapping t c =
    left_of_mapping c.args.nestings (c.args.nestings - 1) _ _ _ _ _
    (sym c.take.ensures.value ∙ ap plain c.in-Mapping.is)
    refl (omega (arith, c.if-nestings-eq0.false)) c.merge_mapping-done.ensures

pub merge_value-returns-in-Sequence : goal.merge_value-returns-in-Sequence
merge_value-returns-in-Sequence t c =
    left_of_sequence c.args.nestings (c.args.nestings - 1) _ _ _ _ _
    (sym c.take.ensures.value ∙ ap plain c.in-Sequence.is)
    refl (omega (arith, c.if-nestings-eq0.false)) c.merge_sequence-done.ensures

pub merge_value-returns-in-Tagged : goal.merge_value-returns-in-Tagged
merge_value-returns-in-Tagged t c =
    let old = c.deref_mut.result.now in
    let new = c.merge_tagged-done.new.tagged in
    left_of_tagged c.args.nestings (c.args.nestings - 1) _ (plain_tagged old).0 (plain_tagged old).1
    (plain_tagged new).1 _ _
    (sym c.take.ensures.value ∙ (ap plain c.in-Tagged.is
    ∙ ap (λ x. tagged (plain_tagged x).0 (plain_tagged x).1) (sym c.deref_mut.ensures.value)))
    (ap (λ s. tagged s (plain_tagged new).1) c.merge_tagged-done.ensures.tag)
    (omega (arith, c.if-nestings-eq0.false)) c.merge_tagged-done.ensures.value
