use Rattle.std.proofs.Common.{◌∙◌, ◌+◌, arith, refl, subst, sym}
use Rattle.yaml_direct.specs.LeftInBrackets.{HasNothing}
use Rattle.yaml_direct.proofs.BracketAmid.{byte_amid}
use Rattle.yaml_direct.proofs.BracketFails.{closing_goes_on, closing_token, part_none}
use Rattle.yaml_direct.proofs.BracketNothing.{gap_nothing}
use Rattle.yaml_direct.proofs.ReaderLaws.{no_such_place}
use Rattle.yaml_grammar.specs.Gaps.{next}
use Rattle.yaml_reading.proofs.Options.{no_some, same_some}
use Rattle.yaml_direct.proofs.BracketReads.{part_comma, part_here}
use Rattle.yaml_direct.proofs.reader.Reader.flow_next.Goals as goal

pub returns-then-byte-closing-clause-found : goal.returns-then-byte-closing-clause-found
returns-then-byte-closing-clause-found c = λ h some.
    part_here c.args.self.now.text.now c.args.closing c.args.behind (sym c.at-byte.ensures.value ∙ c.if-byte-closing.true)

pub returns-clause-found : goal.returns-clause-found
returns-clause-found c = λ h some.
    part_comma c.args.self.now.text.now c.args.closing c.args.behind c.flow_gap.result
    (λ e. c.if-byte-closing.false (c.at-byte.ensures.value ∙ e)) (sym c.at-byte.ensures.value ∙ c.if-byte-ne44.false)
    (c.flow_gap.ensures.found h some).there

pub returns-then-byte-closing-clause-missed : goal.returns-then-byte-closing-clause-missed
returns-then-byte-closing-clause-missed c = λ h none k after.
    absurd (no_such_place c.args.self.now c.args.behind (omega (arith, c.requires.within)) none)

pub returns-then-byte-ne44-clause-missed : goal.returns-then-byte-ne44-clause-missed
returns-then-byte-ne44-clause-missed c = λ h none k after.
    let other = part_none c.args.self.now.text.now c.args.closing c.args.behind
    (λ e. c.if-byte-closing.false (c.at-byte.ensures.value ∙ e)) (λ e. c.if-byte-ne44.true (c.at-byte.ensures.value ∙ e)) in
    absurd (no_some k (sym other ∙ after))

pub returns-clause-missed : goal.returns-clause-missed
returns-clause-missed c = λ h none k after.
    let text = c.args.self.now.text.now in
    let from = c.args.behind + 1 in
    let there = part_comma text c.args.closing c.args.behind (next text from)
    (λ e. c.if-byte-closing.false (c.at-byte.ensures.value ∙ e)) (sym c.at-byte.ensures.value ∙ c.if-byte-ne44.false) refl in
    subst (λ q. HasNothing text q) (same_some (next text from) k (sym there ∙ after))
    (gap_nothing text from (c.flow_gap.ensures.missed h (λ _. omega (arith, c.requires.here.0)) none))

pub returns-then-byte-closing-clause-token : goal.returns-then-byte-closing-clause-token
returns-then-byte-closing-clause-token c = λ some closing.
    closing_token c.args.self.now.text.now c.args.behind c.args.closing
    (sym c.at-byte.ensures.value ∙ c.if-byte-closing.true) closing

pub returns-then-byte-closing-clause-there : goal.returns-then-byte-closing-clause-there
returns-then-byte-closing-clause-there c = λ h closing some.
    closing_goes_on c.args.self.now.text.now c.args.behind c.args.closing c.requires.within
    (sym c.at-byte.ensures.value ∙ c.if-byte-closing.true) closing

pub returns-clause-there : goal.returns-clause-there
returns-clause-there c = λ h closing some.
    c.flow_gap.ensures.there h
    (λ _. byte_amid c.args.self.now c.args.behind 44 c.requires.here.0
    (sym c.at-byte.ensures.value ∙ c.if-byte-ne44.false) (omega arith) (λ f. omega (arith, f)) (λ f. omega (arith, f))) some

pub returns-then-byte-ne44-clause-there : goal.returns-then-byte-ne44-clause-there
returns-then-byte-ne44-clause-there c = λ h closing some. absurd (some refl)
