-- A byte that stands for another, and a run.
use Rattle.std.proofs.Common.{sym, ◌∙◌, arith}
use Rattle.yaml_direct.specs.LeftInBrackets.{other, passed}
use Rattle.yaml_direct.specs.Quoted.{closed, later}
use Rattle.yaml_direct.proofs.quote.closing.Goals as goal

pub runs-preserved : goal.runs-preserved
runs-preserved c =
    let end = c.run_end-place.ensures in
    record {
      forward = omega (arith, c.runs.invariant.forward, c.run_end-place.ensures.forward);
      within = end.within;
      closes = λ j h. c.runs.invariant.closes j
          (later c.run_end-place.result (sym c.stands_for_another.ensures.value
          ∙ c.runs-test.true) end.forward end.run h);
      passes = λ j h. c.runs.invariant.passes j
          (other c.run_end-place.result (sym c.stands_for_another.ensures.value
          ∙ c.runs-test.true) end.forward end.run h);
      ends = λ h. end.ends;
    }

pub returns-clause-closes : goal.returns-clause-closes
returns-clause-closes c =
    λ is. c.runs.invariant.closes c.runs.place (closed is (sym c.stands_for_another.ensures.value ∙ c.runs-test.false))

pub returns-clause-passes : goal.returns-clause-passes
returns-clause-passes c = c.runs.invariant.passes c.runs.place passed
