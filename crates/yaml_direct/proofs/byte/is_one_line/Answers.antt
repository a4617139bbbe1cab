-- No line feed was found.
use Rattle.std.proofs.Common.{◌+◌, ◌-◌, ◌≡◌, ◌<◌, ◌∙◌, arith, drop, subst, sym, take, eqb-true}
use Rattle.std.proofs.lemmas.List.{get_or-drop, get_or-take, length-drop, length-take-le}
use Rattle.memchr.specs.Find.{Nowhere, Passes, is_byte}
use Rattle.yaml_direct.specs.Gaps.{InLine}
use Rattle.yaml_direct.proofs.FeedPlaces.{two_lines}
use Rattle.yaml_direct.proofs.GapLaws.{passes_nowhere}
use Rattle.yaml_grammar.specs.Bytes.{at}
use Rattle.yaml_direct.proofs.byte.is_one_line.Goals as goal

pub returns-in-None-clause-line : goal.returns-in-None-clause-line
returns-in-None-clause-line c =
    let text = c.args.text.now in
    let from = c.args.from in
    let n = c.args.to - from in
    let all = length-drop from text in
    let part = length-take-le n (drop from text) (omega (arith, all, c.requires.1, c.requires.0)) in
    let none = subst (λ k. Nowhere (Passes (is_byte 10) (take n (drop from text))) 0 k) part c.in-None.ensures in
    let sum : from + n ≡ c.args.to = omega (arith, c.requires.0) in
    λ h. subst (λ k. InLine text from k) sum (passes_nowhere text from n n (omega arith) none)

pub returns-in-Some-clause-lines : goal.returns-in-Some-clause-lines
returns-in-Some-clause-lines c =
    let text = c.args.text.now in
    let from = c.args.from in
    let n = c.args.to - from in
    let k = c.in-Some.field-0 in
    let all = length-drop from text in
    let part = length-take-le n (drop from text) (omega (arith, all, c.requires.1, c.requires.0)) in
    let high : k < n = omega (arith, part, c.in-Some.ensures.0.high) in
    let byte = sym (get_or-take n (drop from text) k 0 high ∙ get_or-drop from text k 0)
    ∙ eqb-true (at (take n (drop from text)) k) 10 c.in-Some.ensures.1 in
    λ h. two_lines text from c.args.to (from + k) (omega arith) (omega (arith, high, c.requires.0)) byte
