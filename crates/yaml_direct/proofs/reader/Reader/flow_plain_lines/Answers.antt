use Rattle.std.proofs.Common.{◌∙◌, ap, inl, inr, subst, sym}
use Rattle.yaml_direct.proofs.BracketFails.{lines_left}
use Rattle.yaml_direct.proofs.BracketLeaves.{lines_read}
use Rattle.yaml_direct.proofs.BracketReads.{has_alone, node_has, of_allowed, of_kept}
use Rattle.yaml_direct.specs.PlainTexts.{IsBrokenLine, LeavesFlow}
use Rattle.yaml_grammar.specs.Bytes.{at}
use Rattle.yaml_grammar.specs.Gaps.{next}
use Rattle.yaml_direct.proofs.reader.Reader.flow_plain_lines.Goals as goal

pub returns-clause-found : goal.returns-clause-found
returns-clause-found c = λ text depth of b broken some.
    let old = c.args.self.now in
    let m = c.push_flow_lines-place.new.self in
    let push = c.push_flow_lines-place.ensures in
    let k = c.push_flow_lines-place.result in
    let of_m = of_kept text old m of push.reached.0 in
    let x = push.found (of_allowed text old of)
    (subst (λ t. IsBrokenLine t c.args.from c.args.first c.args.second) (sym of.same) broken) c.if-place.false
    (λ e. c.flow_no_key.ensures.other some (ap (λ t. at t k) push.reached.0 ∙ e)) in
    let y = lines_read text old m depth c.args.from k of b broken.first.begins x in
    has_alone text c.args.slot old m c.flow_no_key.new.self depth old.start.index k c.flow_no_key.result
    (node_has text old m depth old.start.index x.end k y (x.there ∙ ap (λ t. next t x.end) of.same))
    (c.flow_no_key.ensures.found text of_m y.unnamed some)

pub returns-then-place-clause-missed : goal.returns-then-place-clause-missed
returns-then-place-clause-missed c = λ text of b broken none fed.
    let old = c.args.self.now in
    lines_left text old c.args.from b broken.first.begins
    (subst (λ t. LeavesFlow t c.args.from) of.same
    (c.push_flow_lines-place.ensures.missed (of_allowed text old of)
    (subst (λ t. IsBrokenLine t c.args.from c.args.first c.args.second) (sym of.same) broken) (inl c.if-place.true) fed))

pub returns-clause-missed : goal.returns-clause-missed
returns-clause-missed c = λ text of b broken none fed.
    let old = c.args.self.now in
    let push = c.push_flow_lines-place.ensures in
    let k = c.push_flow_lines-place.result in
    let colon = c.flow_no_key.ensures.missed none fed in
    lines_left text old c.args.from b broken.first.begins
    (subst (λ t. LeavesFlow t c.args.from) of.same
    (push.missed (of_allowed text old of)
    (subst (λ t. IsBrokenLine t c.args.from c.args.first c.args.second) (sym of.same) broken)
    (inr (ap (λ t. at t k) (sym push.reached.0) ∙ colon.0)) colon.1))
