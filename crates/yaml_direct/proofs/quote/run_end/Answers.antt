use Rattle.std.proofs.Common.{◌+◌, ◌-◌, ◌≡◌, arith, drop, length, subst, take}
use Rattle.memchr.specs.Find.{Nowhere, Passes}
use Rattle.yaml_direct.specs.Quoted.{IsRun, is_stop}
use Rattle.yaml_direct.proofs.GapLaws.{length_of_part}
use Rattle.yaml_direct.proofs.QuoteRuns.{end_found, run_found}
use Rattle.yaml_direct.proofs.quote.run_end.Goals as goal

pub returns-in-Some-clause-run : goal.returns-in-Some-clause-run
returns-in-Some-clause-run c =
    let text = c.args.text.now in
    let from = c.args.from in
    let part = length_of_part text from c.requires in
    run_found text c.args.quote from (length text - from) c.in-Some.len (omega (arith, part, c.in-Some.ensures.0.high))
    c.in-Some.ensures.0.before

pub returns-in-Some-clause-ends : goal.returns-in-Some-clause-ends
returns-in-Some-clause-ends c =
    let text = c.args.text.now in
    let from = c.args.from in
    let part = length_of_part text from c.requires in
    end_found text c.args.quote from (length text - from) c.in-Some.len (omega (arith, part, c.in-Some.ensures.0.high))
    c.in-Some.ensures.1

pub returns-in-None-clause-run : goal.returns-in-None-clause-run
returns-in-None-clause-run c =
    let text = c.args.text.now in
    let from = c.args.from in
    let quote = c.args.quote in
    let part = length_of_part text from c.requires in
    let none = subst (λ n. Nowhere (Passes (is_stop quote) (take (length text - from) (drop from text))) 0 n) part
    c.in-None.ensures in
    let sum : from + (length text - from) ≡ length text = omega (arith, c.requires) in
    subst (λ n. IsRun text quote from n) sum
    (run_found text quote from (length text - from) (length text - from) (omega arith) none)
