-- The key that is found is compared, and the first. The place before in the chain is where to go on.
use Rattle.std.proofs.Common.{◌≡◌, ◌-◌, ◌≤◌, arith, false, length, refl, subst, sym, true, ◌∙◌}
use Rattle.yaml_tree.specs.Index.{chain_count}
use Rattle.yaml_value.specs.Find.{is_key_at}
use Rattle.yaml_value.specs.Hash.{text_hash}
use Rattle.yaml_value.specs.PlainValue.{text}
use Rattle.yaml_value.specs.View.{entry_pairs}
use Rattle.yaml_value.proofs.Equals.{is_key_at-entry}
use Rattle.yaml_value.proofs.Indexed.{IsAbsentFrom, IsSought, chain_end-le, place-absent, place-found, sought-end}
use Rattle.yaml_value.proofs.Indexed.{sought-next}
use Rattle.yaml_value.proofs.value.equal.text_in_chain.Goals as goal

pub loop-turn-init : goal.loop-turn-init
loop-turn-init c =
    let k = text c.args.text.now in
    let es = c.args.entries.now in (
      subst (IsSought (chain_count (length es)) k (entry_pairs es)) (sym c.requires.first) (sought-end k es refl),
      omega (arith, c.requires.first, chain_end-le (text_hash c.args.text.now) es),
    )

pub returns-then-left-eq0-clause-place : goal.returns-then-left-eq0-clause-place
returns-then-left-eq0-clause-place c =
    let k = text c.args.text.now in
    let ps = entry_pairs c.args.entries.now in
    sym (place-absent k ps (subst (IsAbsentFrom k ps) c.if-left-eq0.true c.loop-turn.invariant.0.2))

pub returns-then-place-entries-clause-place : goal.returns-then-place-entries-clause-place
returns-then-place-entries-clause-place c =
    absurd (omega (arith, c.loop-turn.invariant.1, c.if-place-entries.true, c.if-left-eq0.false))

pub returns-then-has_text-clause-place : goal.returns-then-has_text-clause-place
returns-then-has_text-clause-place c =
    let k = text c.args.text.now in
    let es = c.args.entries.now in
    let place = c.loop-turn.left - 1 in
    let here : is_key_at k place (entry_pairs es) ≡ true =
    is_key_at-entry k es place c.index-entries-place.result c.if-place-entries.false c.index-entries-place.is
    ∙ (sym c.has_text.ensures ∙ c.if-has_text.true) in
    sym (place-found k (entry_pairs es) place refl c.requires.sound.1 here)

pub loop-turn-preserved : goal.loop-turn-preserved
loop-turn-preserved c =
    let k = text c.args.text.now in
    let es = c.args.entries.now in
    let left = c.loop-turn.left in
    let so_far = c.loop-turn.invariant in
    let within : left ≤ length es = omega (arith, so_far.1) in
    let other : is_key_at k (left - 1) (entry_pairs es) ≡ false =
    is_key_at-entry k es (left - 1) c.index-entries-place.result c.if-place-entries.false c.index-entries-place.is
    ∙ (sym c.has_text.ensures ∙ c.if-has_text.false) in
    let next = sought-next (chain_count (length es)) left k es refl (omega (arith, c.if-left-eq0.false)) within
    (c.requires.sound.0 c.requires.some).1 other so_far.0 in (
      subst (IsSought (chain_count (length es)) k (entry_pairs es)) (sym c.earlier_at-left.ensures) next.0,
      omega (arith, next.1, so_far.1, c.earlier_at-left.ensures),
    )

pub returns-clause-place : goal.returns-clause-place
returns-clause-place c =
    let k = text c.args.text.now in
    let ps = entry_pairs c.args.entries.now in
    let so_far = c.loop-turn.invariant in
    let none : c.loop-turn.left ≡ 0 = omega (arith, so_far.1, c.loop-turn-test.false) in
    sym (place-absent k ps (subst (IsAbsentFrom k ps) none so_far.0.2))
