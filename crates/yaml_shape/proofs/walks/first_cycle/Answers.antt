-- Cycles are where walks end that are longer than the table.
use Rattle.std.proofs.Common.{◌≡◌, ◌+◌, ◌*◌, ◌^◌, length, map, not, ap, sym, subst, ◌∙◌, arith}
use Rattle.std.proofs.lemmas.Grind.{pow_more}
use Rattle.std.proofs.lemmas.List.{length-map}
use Rattle.yaml_shape.specs.ShapeView.{shape_of}
use Rattle.yaml_shape.specs.Walks.{led_on, AreWalks}
use Rattle.yaml_shape.proofs.StepLaws.{doubles, cycle_none, cycle_some}
use Rattle.yaml_shape.proofs.walks.first_cycle.Goals as goal

pub loop-doubling-preserved : goal.loop-doubling-preserved
loop-doubling-preserved c =
    let more : 2 ^ (c.loop-doubling.doubling + 1) ≡ 2 ^ c.loop-doubling.doubling * 2 =
    pow_more 2 c.loop-doubling.doubling in
    doubles (map shape_of c.args.shapes.now) (2 ^ c.loop-doubling.doubling)
    (2 ^ (c.loop-doubling.doubling + 1)) c.loop-doubling.steps.items c.in_ok-steps-2.steps.items
    (omega (arith, more)) (c.in_ok-steps-2.ensures
    ∙ ap (λ l. map (led_on l) l) c.deref-in-loop-doubling.ensures.value) c.loop-doubling.invariant

pub returns-then-is_none-clause-none : goal.returns-then-is_none-clause-none
returns-then-is_none-clause-none c _ =
    cycle_none (map shape_of c.args.shapes.now) (2 ^ c.loop-doubling.doubling) c.deref.result.now c.least.result
    (subst (AreWalks (map shape_of c.args.shapes.now) (2 ^ c.loop-doubling.doubling))
    (sym c.deref.ensures.value) c.loop-doubling.invariant)
    c.least.ensures.none (c.is_none.ensures ∙ ap not c.if-is_none.true)

pub returns-clause-none : goal.returns-clause-none
returns-clause-none c =
    cycle_none (map shape_of c.args.shapes.now) (2 ^ c.loop-doubling.doubling) c.deref-2.result.now c.least-2.result
    (subst (AreWalks (map shape_of c.args.shapes.now) (2 ^ c.loop-doubling.doubling))
    (sym c.deref-2.ensures.value) c.loop-doubling.invariant)
    c.least-2.ensures.none

pub returns-clause-first : goal.returns-clause-first
returns-clause-first c =
    let last : c.loop-doubling.doubling ≡ 13 = omega arith in
    let many : 2 ^ c.loop-doubling.doubling ≡ 8192 = ap (λ k. 2 ^ k) last in
    let size : length (map shape_of c.args.shapes.now) ≡ length c.args.shapes.now =
    length-map c.args.shapes.now shape_of in
    cycle_some (map shape_of c.args.shapes.now) (2 ^ c.loop-doubling.doubling) c.deref-2.result.now c.least-2.result
    (omega (arith, size, many))
    (subst (AreWalks (map shape_of c.args.shapes.now) (2 ^ c.loop-doubling.doubling))
    (sym c.deref-2.ensures.value) c.loop-doubling.invariant)
    c.least-2.ensures.least
