-- Each turn writes one more.
use Rattle.std.proofs.Common.{◌≡◌, ap, ◌∙◌, sym, subst, length, arith, rules, ◌+◌, ◌*◌, ◌<◌, ◌≤◌, Err, IfErr}
use Rattle.std.proofs.Common.{option_map, string_bytes}
use Rattle.std.proofs.lemmas.Iterator.{YieldsList-from_slice}
use Rattle.std.proofs.lemmas.Iterator.Consumers.{YieldsList-turn, YieldsList-end}
use Rattle.std.proofs.lemmas.List.{length_push}
use Rattle.std.specs.Slice.Iter.{iter_rest}
use Rattle.yaml_query.proofs.Rests.{end_of, items_end, items_turn, pairs_behind, turn_of}
use Rattle.yaml_query.proofs.Sizes.{item_smaller, items_size, pair_smaller, pairs_size, size}
use Rattle.yaml_query.proofs.Written.{ArePairsLeft, fault_among, fault_of_pair, IsLeft, items_written, one_written}
use Rattle.yaml_query.proofs.Written.{pair_done, pairs_written, writes_array, writes_object}
use Rattle.yaml_query.specs.Out.{tokens_in}
use Rattle.yaml_query.specs.PairFaults.{IsFaultAmong, IsFaultAtName, IsFaultOfPairs, IsNameOrNone, WritesPair}
use Rattle.yaml_value.specs.View.{plain, plain_entry, plain_items, plain_pairs}
use Rattle.yaml_query.proofs.encode.+json.Goals as goal

pub write_array-returns-clause-json : goal.write_array-returns-clause-json
write_array-returns-clause-json t c =
    writes_array (plain_items c.args.items.now) _ _ _ c.in_ok-token.ensures.tokens c.in_ok-write_items.ensures.json

pub write_object-returns-clause-json : goal.write_object-returns-clause-json
write_object-returns-clause-json t c =
    writes_object (plain_pairs c.args.mapping.now) _ _ _ c.in_ok-token.ensures.tokens c.in_ok-write_pairs.ensures.json

pub write_items-returns-clause-json : goal.write_items-returns-clause-json
write_items-returns-clause-json t c =
    let xs = c.args.items.now in
    let vs = plain_items xs in
    let end = items_end xs c.loop-i.i (omega arith) in
    items_written vs c.loop-i.i (tokens_in c.args.out.now) _ _
    (subst (λ r. IsLeft vs r c.loop-i.i (tokens_in c.args.out.now) (tokens_in c.loop-i.out)) end c.loop-i.invariant.0)
    c.in_ok-token.ensures.tokens

pub write_items-loop-i-preserved : goal.write_items-loop-i-preserved
write_items-loop-i-preserved t c =
    let xs = c.args.items.now in
    let vs = plain_items xs in
    let turn = items_turn xs c.loop-i.i c.index-items-i.result c.loop-i-test.true c.index-items-i.is in (
      one_written vs _ _ _ _ _ _
          (subst (λ r. IsLeft vs r c.loop-i.i (tokens_in c.args.out.now) (tokens_in c.loop-i.out)) turn
          c.loop-i.invariant.0)
          c.in_ok-write_item.ensures.json,
      c.in_ok-write_item.ensures.frame ∙ c.loop-i.invariant.1,
    )

pub write_items-returns-in_err-write_item-clause-fault : goal.write_items-returns-in_err-write_item-clause-fault
write_items-returns-in_err-write_item-clause-fault t c =
    let xs = c.args.items.now in
    let vs = plain_items xs in
    let turn = items_turn xs c.loop-i.i c.index-items-i.result c.loop-i-test.true c.index-items-i.is in
    let e : c.from_residual.result ≡ Err c.in_err-write_item.field-0.0 = search rules in
    let fault : IsFaultAmong vs c.in_err-write_item.field-0.0 =
    fault_among vs _ _ c.loop-i.i _ _ c.in_err-write_item.field-0.0
    (subst (λ r. IsLeft vs r c.loop-i.i (tokens_in c.args.out.now) (tokens_in c.loop-i.out)) turn c.loop-i.invariant.0)
    c.in_err-write_item.ensures.fault in
    subst (λ r. IfErr r (IsFaultAmong vs)) (sym e) fault

pub write_items-write_item-requires : goal.write_items-write_item-requires
write_items-write_item-requires t c =
    let smaller = item_smaller c.args.items.now c.loop-i.i c.index-items-i.result c.loop-i-test.true
    c.index-items-i.is in
    let less : 2 * size (plain c.index-items-i.result) + 1 < 2 * items_size (plain_items c.args.items.now) + 2 =
    omega (arith, smaller) in
    search rules

pub write_pairs-returns-clause-json : goal.write_pairs-returns-clause-json
write_pairs-returns-clause-json t c =
    let es = iter_rest c.iter-entry-items.result in
    let ps = plain_pairs c.args.mapping.now in
    let h = YieldsList-end (YieldsList-from_slice es cc) c.loop-entry.yielded _ c.loop-entry.yielded_by _ _
    c.in-None.is c.next.ensures.steps in
    let le : length es ≤ length c.loop-entry.yielded = omega (arith, h.1) in
    let end = end_of es ps (length c.loop-entry.yielded) c.iter-entry-items.ensures le in
    pairs_written ps (tokens_in c.args.out.now) _ _
    (subst (λ r. ArePairsLeft ps r (tokens_in c.args.out.now) (tokens_in c.loop-entry.out)) end
    c.loop-entry.invariant.0)
    c.in_ok-token.ensures.tokens

pub write_pairs-loop-entry-preserved : goal.write_pairs-loop-entry-preserved
write_pairs-loop-entry-preserved t c =
    let es = iter_rest c.iter-entry-items.result in
    let ps = plain_pairs c.args.mapping.now in
    let n = length c.loop-entry.yielded in
    let d = c.in-Some.entry.now in
    let h = YieldsList-turn (YieldsList-from_slice es cc) c.loop-entry.yielded _ c.loop-entry.yielded_by _ _
    c.in-Some.entry c.in-Some.is c.next.ensures.steps in
    let turn = turn_of es ps n d c.iter-entry-items.ensures h in
    let named = subst (λ k. IsNameOrNone k (option_map (λ s. string_bytes s) c.in_ok-name.name)) c.key.ensures
    c.in_ok-name.ensures in
    let written = subst (λ v. WritesPair (option_map (λ s. string_bytes s) c.in_ok-name.name) v (tokens_in
    c.loop-entry.out) (tokens_in c.write_pair.new.out)) c.value.ensures c.in_ok-write_pair.ensures.json in
    let left = pair_done ps _ (plain_entry d).0 (plain_entry d).1 (option_map (λ s. string_bytes s)
    c.in_ok-name.name) _ _ _
    (subst (λ r. ArePairsLeft ps r (tokens_in c.args.out.now) (tokens_in c.loop-entry.out)) turn
    c.loop-entry.invariant.0)
    named written in (
      subst (λ m. ArePairsLeft ps (pairs_behind m ps) (tokens_in c.args.out.now) (tokens_in c.write_pair.new.out))
          (sym (length_push c.loop-entry.yielded c.in-Some.entry)) left,
      c.in_ok-write_pair.ensures.frame ∙ c.loop-entry.invariant.1,
    )

pub write_pairs-returns-in_err-write_pair-clause-fault : goal.write_pairs-returns-in_err-write_pair-clause-fault
write_pairs-returns-in_err-write_pair-clause-fault t c =
    let es = iter_rest c.iter-entry-items.result in
    let ps = plain_pairs c.args.mapping.now in
    let n = length c.loop-entry.yielded in
    let d = c.in-Some.entry.now in
    let h = YieldsList-turn (YieldsList-from_slice es cc) c.loop-entry.yielded _ c.loop-entry.yielded_by _ _
    c.in-Some.entry c.in-Some.is c.next.ensures.steps in
    let turn = turn_of es ps n d c.iter-entry-items.ensures h in
    let named = subst (λ k. IsNameOrNone k (option_map (λ s. string_bytes s) c.in_ok-name.name)) c.key.ensures
    c.in_ok-name.ensures in
    let told = subst (λ v. IsFaultAtName (option_map (λ s. string_bytes s) c.in_ok-name.name) v
    c.in_err-write_pair.field-0.0) c.value.ensures c.in_err-write_pair.ensures.fault in
    let e : c.from_residual-in_err-write_pair.result ≡ Err c.in_err-write_pair.field-0.0 = search rules in
    let fault : IsFaultOfPairs ps c.in_err-write_pair.field-0.0 =
    fault_of_pair ps _ (plain_entry d).0 (plain_entry d).1 (option_map (λ s. string_bytes s) c.in_ok-name.name) _ _
    c.in_err-write_pair.field-0.0
    (subst (λ r. ArePairsLeft ps r (tokens_in c.args.out.now) (tokens_in c.loop-entry.out)) turn
    c.loop-entry.invariant.0)
    named told in
    subst (λ r. IfErr r (IsFaultOfPairs ps)) (sym e) fault

pub write_pairs-write_pair-requires : goal.write_pairs-write_pair-requires
write_pairs-write_pair-requires t c =
    let es = iter_rest c.iter-entry-items.result in
    let d = c.in-Some.entry.now in
    let h = YieldsList-turn (YieldsList-from_slice es cc) c.loop-entry.yielded _ c.loop-entry.yielded_by _ _
    c.in-Some.entry c.in-Some.is c.next.ensures.steps in
    let smaller = pair_smaller es (length c.loop-entry.yielded) d h.0 h.1 in
    let value = ap size c.value.ensures in
    let all = ap pairs_size c.iter-entry-items.ensures in
    let less : 2 * size (plain c.value.result.now) + 2 < 2 * pairs_size (plain_pairs c.args.mapping.now) + 2 = omega
    (arith, smaller, value, all) in
    search rules
