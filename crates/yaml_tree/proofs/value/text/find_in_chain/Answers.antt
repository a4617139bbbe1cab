-- The place before in the chain is where to go on.
use Rattle.std.proofs.Common.{◌≡◌, ◌-◌, ◌<◌, ap, arith, sym, ◌∙◌, subst}
use Rattle.yaml_tree.specs.Equal.{tree_eq}
use Rattle.yaml_tree.specs.Tree.{string}
use Rattle.yaml_tree.specs.View.{tree_of}
use Rattle.yaml_tree.proofs.Indexed.{IsAbsentFrom, IsSought, sought-first, sought-next, place_of_key-absent}
use Rattle.yaml_tree.proofs.Lookups.{place_of_key-guess}
use Rattle.yaml_tree.proofs.value.text.find_in_chain.Goals as goal

pub loop-left-init : goal.loop-left-init
loop-left-init c =
    sought-first c.args.chains c.chain_of_text.result (string c.args.text.now) c.args.entries.now
    c.index-entries-chain_of_text.result c.chain_of_text.ensures.value c.chain_of_text.ensures.within
    c.requires.within c.requires.chained

pub returns-then-is_text-clause-place : goal.returns-then-is_text-clause-place
returns-then-is_text-clause-place c =
    let k = string c.args.text.now in
    let es = c.args.entries.now in
    let left = c.loop-left.left in
    let d = c.index-entries-place.result in
    sym (place_of_key-guess k es (left - 1) d c.requires.distinct
    (omega (arith, c.loop-left-test.true, c.loop-left.invariant.1))
    (ap (λ e. tree_eq k (tree_of e.key)) (sym c.index-entries-place.is)
    ∙ (sym c.is_text.ensures ∙ c.if-is_text.true)))

-- where to go on
next : (c : goal.Else-is_text)
    → IsSought c.args.chains (string c.args.text.now) c.args.entries.now c.index-entries-place.result.earlier
    × (c.index-entries-place.result.earlier < c.loop-left.left)
next c =
    sought-next c.args.chains c.loop-left.left (string c.args.text.now) c.args.entries.now
    c.index-entries-place.result c.loop-left-test.true c.requires.chained c.index-entries-place.is
    (sym c.is_text.ensures ∙ c.if-is_text.false) c.loop-left.invariant

pub loop-left-smaller : goal.loop-left-smaller
loop-left-smaller c = (next c).1

pub loop-left-preserved : goal.loop-left-preserved
loop-left-preserved c = (next c).0

pub returns-clause-place : goal.returns-clause-place
returns-clause-place c =
    let k = string c.args.text.now in
    let es = c.args.entries.now in
    let none : c.loop-left.left ≡ 0 = omega (arith, c.loop-left-test.false) in
    sym (place_of_key-absent k es (subst (IsAbsentFrom k es) none c.loop-left.invariant.2))
