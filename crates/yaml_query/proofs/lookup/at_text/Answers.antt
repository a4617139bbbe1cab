-- Each pair is the next of the mapping.
use Rattle.std.proofs.Common.{◌≡◌, ap, ◌∙◌, sym, length, false, true, Some, arith, ◌+◌, ◌≤◌}
use Rattle.std.proofs.lemmas.Iterator.{YieldsList-from_slice}
use Rattle.std.proofs.lemmas.Iterator.Consumers.{YieldsList-turn, YieldsList-end}
use Rattle.std.proofs.lemmas.List.{length_push}
use Rattle.std.specs.Slice.Iter.{iter_rest}
use Rattle.yaml_query.proofs.Pairs.{at_found, at_none, at_passed}
use Rattle.yaml_query.proofs.Rests.{end_of, pairs_behind, turn_of}
use Rattle.yaml_value.specs.Find.{value_at}
use Rattle.yaml_value.specs.PlainEqual.{plain_eq}
use Rattle.yaml_value.specs.PlainValue.{text as plain_text}
use Rattle.yaml_value.specs.View.{plain_entry, plain_pairs}
use Rattle.yaml_query.proofs.lookup.at_text.Goals as goal

pub returns-then-is_text : goal.returns-then-is_text
returns-then-is_text c =
    let es = iter_rest c.iter-entry-items.result in
    let ps = plain_pairs c.args.mapping.now in
    let n = length c.loop-entry.yielded in
    let k = plain_text c.args.text.now in
    let d = c.in-Some.entry.now in
    let t = YieldsList-turn (YieldsList-from_slice es cc) c.loop-entry.yielded _ c.loop-entry.yielded_by _ _
    c.in-Some.entry c.in-Some.is c.next.ensures.steps in
    let turn = turn_of es ps n d c.iter-entry-items.ensures t in
    let is : plain_eq k (plain_entry d).0 ≡ true = ap (plain_eq k) (sym c.key.ensures) ∙ (sym c.is_text.ensures ∙
    c.if-is_text.true) in
    ap Some c.value.ensures ∙ sym (at_found k (plain_entry d).0 (plain_entry d).1 ps (pairs_behind n ps)
    (pairs_behind (n + 1) ps) c.loop-entry.invariant turn is)

pub loop-entry-preserved : goal.loop-entry-preserved
loop-entry-preserved c =
    let es = iter_rest c.iter-entry-items.result in
    let ps = plain_pairs c.args.mapping.now in
    let n = length c.loop-entry.yielded in
    let k = plain_text c.args.text.now in
    let d = c.in-Some.entry.now in
    let t = YieldsList-turn (YieldsList-from_slice es cc) c.loop-entry.yielded _ c.loop-entry.yielded_by _ _
    c.in-Some.entry c.in-Some.is c.next.ensures.steps in
    let turn = turn_of es ps n d c.iter-entry-items.ensures t in
    let is : plain_eq k (plain_entry d).0 ≡ false = ap (plain_eq k) (sym c.key.ensures) ∙ (sym c.is_text.ensures ∙
    c.if-is_text.false) in
    at_passed k (plain_entry d).0 (plain_entry d).1 ps (pairs_behind n ps) (pairs_behind (n + 1) ps)
    c.loop-entry.invariant turn is
    ∙ ap (λ m. value_at k (pairs_behind m ps)) (sym (length_push c.loop-entry.yielded c.in-Some.entry))

pub returns : goal.returns
returns c =
    let es = iter_rest c.iter-entry-items.result in
    let ps = plain_pairs c.args.mapping.now in
    let n = length c.loop-entry.yielded in
    let k = plain_text c.args.text.now in
    let t = YieldsList-end (YieldsList-from_slice es cc) c.loop-entry.yielded _ c.loop-entry.yielded_by _ _
    c.in-None.is c.next.ensures.steps in
    let le : length es ≤ length c.loop-entry.yielded = omega (arith, t.1) in
    sym (at_none k ps (pairs_behind n ps) c.loop-entry.invariant (end_of es ps n c.iter-entry-items.ensures le))
