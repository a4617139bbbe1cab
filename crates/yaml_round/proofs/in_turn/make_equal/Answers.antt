-- Each document makes a value equal to the next one; and what comes of comparing those behind comes of all.
use Rattle.std.proofs.Common.{◌≡◌, Err, Ok, arith, false, rules, subst, sym, true}
use Rattle.yaml_base.specs.Answer.{Answers}
use Rattle.yaml_base.specs.declared.error.Cause.{Cause}
use Rattle.yaml_round.specs.Compared.{ComparesEach}
use Rattle.yaml_round.proofs.ComparedLaws.{equal_first, fault_first, last_compared, none_left, other_first}
use Rattle.yaml_round.proofs.InTurnLaws.{in_turn, none_for}
use Rattle.yaml_round.proofs.TypedReturn.{same_value}
use Rattle.yaml_round.proofs.in_turn.make_equal.Goals as goal

pub loop-value-init : goal.loop-value-init
loop-value-init g c = (λ all. all, λ given each. each)

pub loop-value-preserved : goal.loop-value-preserved
loop-value-preserved g c =
    let same : c.in_ok-makes_equal.field-0 ≡ true = search rules in (
      λ all. (in_turn c.args.limits g.T.Deserialize.start g.T.Deserialize.built g.T.Deserialize.refused
          g.T.PartialEq.eq c.args.values.now c.loop-value.value-index c.value-item.result c.in-Some.document
          c.loop-value.left c.next_document.new.self c.loop-value-test.true c.value-item.is c.in-Some.ensures.items
          (c.loop-value.invariant.0 all)).1,
      λ given each. c.loop-value.invariant.1 given
          (equal_first c.args.limits g.T.Deserialize.start g.T.Deserialize.built g.T.Deserialize.refused
          g.T.PartialEq.eq c.value-item.result c.args.values.now c.loop-value.value-index c.in-Some.document
          c.loop-value.left c.next_document.new.self c.in_ok-makes_equal.field-0 given c.loop-value-test.true
          c.value-item.is c.in-Some.ensures.items c.in_ok-makes_equal.ensures.compared same each),
    )

pub returns-in_default-clause-equal : goal.returns-in_default-clause-equal
returns-in_default-clause-equal g c = λ all.
    absurd (none_for c.args.limits g.T.Deserialize.start g.T.Deserialize.built g.T.Deserialize.refused
    g.T.PartialEq.eq c.args.values.now c.loop-value.value-index c.value-item.result c.loop-value.left
    c.loop-value-test.true c.value-item.is c.in_default.ensures.none (c.loop-value.invariant.0 all))

pub returns-in_err-makes_equal-clause-equal : goal.returns-in_err-makes_equal-clause-equal
returns-in_err-makes_equal-clause-equal g c = λ all.
    let told =
    c.in_err-makes_equal.ensures.equal (in_turn c.args.limits g.T.Deserialize.start g.T.Deserialize.built
    g.T.Deserialize.refused g.T.PartialEq.eq c.args.values.now c.loop-value.value-index c.value-item.result
    c.in-Some.document c.loop-value.left c.next_document.new.self c.loop-value-test.true c.value-item.is
    c.in-Some.ensures.items (c.loop-value.invariant.0 all)).0 in
    search (rules, told)

pub returns-then-not-branch-clause-equal : goal.returns-then-not-branch-clause-equal
returns-then-not-branch-clause-equal g c = λ all.
    let is =
    c.in_ok-makes_equal.ensures.equal (in_turn c.args.limits g.T.Deserialize.start g.T.Deserialize.built
    g.T.Deserialize.refused g.T.PartialEq.eq c.args.values.now c.loop-value.value-index c.value-item.result
    c.in-Some.document c.loop-value.left c.next_document.new.self c.loop-value-test.true c.value-item.is
    c.in-Some.ensures.items (c.loop-value.invariant.0 all)).0 in
    let same = same_value is in
    grind (arith, same)

pub returns-in_default-clause-compared : goal.returns-in_default-clause-compared
returns-in_default-clause-compared g c =
    c.loop-value.invariant.1 (Ok false)
    (none_left c.args.limits g.T.Deserialize.start g.T.Deserialize.built g.T.Deserialize.refused
    g.T.PartialEq.eq c.value-item.result c.args.values.now c.loop-value.value-index c.loop-value.left
    c.loop-value-test.true c.value-item.is c.in_default.ensures.none)

pub returns-in_err-makes_equal-clause-compared : goal.returns-in_err-makes_equal-clause-compared
returns-in_err-makes_equal-clause-compared g c =
    let cause : Cause = c.in_err-makes_equal.field-0.0 in
    let is : c.from_residual.result ≡ Err cause = search rules in
    subst (λ given. Answers (λ same. same) given (ComparesEach c.args.limits g.T.Deserialize.start
    g.T.Deserialize.built g.T.Deserialize.refused g.T.PartialEq.eq c.args.values.now c.args.documents)) (sym is)
    (λ m. c.loop-value.invariant.1 (Err cause)
    (fault_first c.args.limits g.T.Deserialize.start g.T.Deserialize.built g.T.Deserialize.refused
    g.T.PartialEq.eq c.value-item.result c.args.values.now c.loop-value.value-index c.in-Some.document
    c.loop-value.left c.next_document.new.self cause c.loop-value-test.true c.value-item.is
    c.in-Some.ensures.items (c.in_err-makes_equal.ensures.compared m)))

pub returns-then-not-branch-clause-compared : goal.returns-then-not-branch-clause-compared
returns-then-not-branch-clause-compared g c =
    let other : c.in_ok-makes_equal.field-0 ≡ false = search rules in
    c.loop-value.invariant.1 (Ok false)
    (other_first c.args.limits g.T.Deserialize.start g.T.Deserialize.built g.T.Deserialize.refused
    g.T.PartialEq.eq c.value-item.result c.args.values.now c.loop-value.value-index c.in-Some.document
    c.loop-value.left c.next_document.new.self c.in_ok-makes_equal.field-0 c.loop-value-test.true c.value-item.is
    c.in-Some.ensures.items c.in_ok-makes_equal.ensures.compared other)

pub returns-clause-compared : goal.returns-clause-compared
returns-clause-compared g c =
    c.loop-value.invariant.1 (Ok c.is_none.result)
    (last_compared c.args.limits g.T.Deserialize.start g.T.Deserialize.built g.T.Deserialize.refused
    g.T.PartialEq.eq c.args.values.now c.loop-value.value-index c.loop-value.left c.next_document-2.new.self
    c.next_document-2.result c.is_none.result c.loop-value-test.false c.next_document-2.ensures.items
    c.next_document-2.ensures.none c.is_none.ensures)
