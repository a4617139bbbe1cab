-- In the line of `---`, in a later one, or nothing.
use Rattle.std.proofs.Common.{ap, arith, refl, subst, sym, ◌≢◌, ◌∙◌, length}
use Rattle.yaml_direct.specs.Gaps.{begins_token}
use Rattle.yaml_direct.specs.Tokens.{IsCounted}
use Rattle.yaml_direct.proofs.BracketReads.{next_of, of_allowed, of_kept, unnamed_kept}
use Rattle.yaml_direct.proofs.CountedLaws.{column_later, next_lined}
use Rattle.yaml_direct.proofs.DocumentLeaves.{no_root_here, no_root_later}
use Rattle.yaml_direct.proofs.ReaderLaws.{ends_by_line, follows_here}
use Rattle.yaml_direct.proofs.StandReads.{root_here, root_later, root_none}
use Rattle.yaml_direct.proofs.StandSteps.{counted_same, over_ends}
use Rattle.yaml_direct.proofs.reader.Reader.marked_content.Goals as goal
use Rattle.yaml_grammar.specs.Bytes.{is_over}
use Rattle.yaml_grammar.specs.Gaps.{ends_its_line}

pub returns-then-is_over-clause-found : goal.returns-then-is_over-clause-found
returns-then-is_over-clause-found c = λ text of none amid some.
    let old = c.args.self.now in
    let g = c.gap-place.new.self in
    let gap = c.gap-place.ensures in
    let new = c.push_nothing.new.self in
    let i = c.args.behind in
    let k = c.gap-place.result in
    let of_g = of_kept text old g of gap.reached.0 in
    let n = gap.found (of_allowed text old of) c.if-place.false in
    let low = gap.reached.1.1 c.if-place.false in
    let lined = next_lined old g i k n amid gap.reached.0 low.0 low.1.0 low.1.1 in
    let over = ap (λ t. is_over t k) (sym of_g.same) ∙ sym (c.if-is_over.ensures.same (of_allowed text g of_g) lined) in
    let ends = over_ends old g i k c.is_over.result n amid low.0
    (λ is away. c.is_over.ensures.ends is away ∙ ap length gap.reached.0) c.if-is_over.true in
    let push = c.push_nothing.ensures in
    let counted = column_later old g i k n gap.reached.0 ends low.1.1 in
    root_none text old _ new i c.push_nothing.result k of_g.same gap.still (unnamed_kept old g gap.names none)
    (next_of text old g i k of n) (push.there some) (ap (λ t. ends_its_line t i) (sym of.same) ∙ ends) over
    c.end_spot-self.ensures.index c.end_spot-self.ensures.ended (push.added some)
    (subst (λ q. IsCounted new q) (sym (push.there some)) (counted_same g new k push.kept.0 push.kept.1.0 counted))

pub returns-then-self-line-clause-found : goal.returns-then-self-line-clause-found
returns-then-self-line-clause-found c = λ text of none amid some.
    let old = c.args.self.now in
    let g = c.gap-place.new.self in
    let gap = c.gap-place.ensures in
    let i = c.args.behind in
    let k = c.gap-place.result in
    let of_g = of_kept text old g of gap.reached.0 in
    let n = gap.found (of_allowed text old of) c.if-place.false in
    let low = gap.reached.1.1 c.if-place.false in
    let lined = next_lined old g i k n amid gap.reached.0 low.0 low.1.0 low.1.1 in
    let over = ap (λ t. is_over t k) (sym of_g.same) ∙ sym (c.if-is_over.ensures.same (of_allowed text g of_g) lined) in
    let away : k ≢ length old.text.now =
    (λ e. c.is_over.ensures.inside c.if-is_over.false (e ∙ ap length (sym gap.reached.0))) in
    let follows = follows_here old g i k n c.if-self-line.true (omega (arith, low.1.1, away)) in
    root_here text old g c.node.new.self i c.node.result k gap.still (next_of text old g i k of n)
    (ap (λ t. ends_its_line t i) (sym of.same) ∙ follows)
    (c.node.ensures.found text of_g (unnamed_kept old g gap.names none) over (λ room. absurd (room refl)) some)

pub returns-clause-found : goal.returns-clause-found
returns-clause-found c = λ text of none amid some.
    let old = c.args.self.now in
    let g = c.gap-place.new.self in
    let gap = c.gap-place.ensures in
    let i = c.args.behind in
    let k = c.gap-place.result in
    let of_g = of_kept text old g of gap.reached.0 in
    let n = gap.found (of_allowed text old of) c.if-place.false in
    let low = gap.reached.1.1 c.if-place.false in
    let lined = next_lined old g i k n amid gap.reached.0 low.0 low.1.0 low.1.1 in
    let over = ap (λ t. is_over t k) (sym of_g.same) ∙ sym (c.if-is_over.ensures.same (of_allowed text g of_g) lined) in
    let ends = ends_by_line old g i k n c.if-self-line.false in
    root_later text old g c.node-2.new.self i c.node-2.result k gap.still (next_of text old g i k of n)
    (ap (λ t. ends_its_line t i) (sym of.same) ∙ ends) over
    (c.node-2.ensures.found text of_g (unnamed_kept old g gap.names none) over
    (λ _. column_later old g i k n gap.reached.0 ends low.1.1) some)

pub returns-then-self-line-clause-missed : goal.returns-then-self-line-clause-missed
returns-then-self-line-clause-missed c = λ text of none amid apart lost fed.
    let old = c.args.self.now in
    let g = c.gap-place.new.self in
    let gap = c.gap-place.ensures in
    let i = c.args.behind in
    let k = c.gap-place.result in
    let of_g = of_kept text old g of gap.reached.0 in
    let n = gap.found (of_allowed text old of) c.if-place.false in
    let low = gap.reached.1.1 c.if-place.false in
    let lined = next_lined old g i k n amid gap.reached.0 low.0 low.1.0 low.1.1 in
    let over = ap (λ t. is_over t k) (sym of_g.same) ∙ sym (c.if-is_over.ensures.same (of_allowed text g of_g) lined) in
    let away : k ≢ length old.text.now =
    (λ e. c.is_over.ensures.inside c.if-is_over.false (e ∙ ap length (sym gap.reached.0))) in
    let follows = follows_here old g i k n c.if-self-line.true (omega (arith, low.1.1, away)) in
    let token = ap (λ t. begins_token t k) (sym of.same) ∙ (gap.between c.if-place.false).next in
    no_root_here text i k (next_of text old g i k of n) (ap (λ t. ends_its_line t i) (sym of.same) ∙ follows)
    (c.node.ensures.missed text of_g (unnamed_kept old g gap.names none) over token (λ room. absurd (room refl)) lost
    fed)

pub returns-clause-missed : goal.returns-clause-missed
returns-clause-missed c = λ text of none amid apart lost fed.
    let old = c.args.self.now in
    let g = c.gap-place.new.self in
    let gap = c.gap-place.ensures in
    let i = c.args.behind in
    let k = c.gap-place.result in
    let of_g = of_kept text old g of gap.reached.0 in
    let n = gap.found (of_allowed text old of) c.if-place.false in
    let low = gap.reached.1.1 c.if-place.false in
    let lined = next_lined old g i k n amid gap.reached.0 low.0 low.1.0 low.1.1 in
    let over = ap (λ t. is_over t k) (sym of_g.same) ∙ sym (c.if-is_over.ensures.same (of_allowed text g of_g) lined) in
    let ends = ends_by_line old g i k n c.if-self-line.false in
    let token = ap (λ t. begins_token t k) (sym of.same) ∙ (gap.between c.if-place.false).next in
    no_root_later text i k (next_of text old g i k of n) (ap (λ t. ends_its_line t i) (sym of.same) ∙ ends) over
    (c.node-2.ensures.missed text of_g (unnamed_kept old g gap.names none) over token
    (λ _. column_later old g i k n gap.reached.0 ends low.1.1) lost fed)
