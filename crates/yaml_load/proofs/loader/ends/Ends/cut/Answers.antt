-- Each number is bounded by the place at which the document is cut off.
use Rattle.yaml_load.proofs.Words.{ap, arith, min, sym, ◌∙◌}
use Rattle.yaml_load.proofs.OpenEndsLaws.{bounded_all, bounded_more}
use Rattle.yaml_load.proofs.loader.ends.Ends.cut.Goals as goal

pub numbers-preserved : goal.numbers-preserved
numbers-preserved c =
    let l = c.numbers.self-inside in
    record {
      unended = c.numbers.invariant.unended;
      bounded =
          bounded_more c.args.place c.numbers.at l.numbers.items c.min.result c.index.result.now
          (omega (arith, l.numbers.ok, c.len.ensures, c.numbers-test.true))
          (c.min.ensures ∙ ap (λ n. min n c.args.place) c.index.ensures) ∙ c.numbers.invariant.bounded;
    }

pub returns-clause-numbers : goal.returns-clause-numbers
returns-clause-numbers c =
    let l = c.numbers.self-inside in
    sym (bounded_all c.args.place c.numbers.at l.numbers.items
    (omega (arith, l.numbers.ok, c.len.ensures, c.numbers-test.false)))
    ∙ c.numbers.invariant.bounded
