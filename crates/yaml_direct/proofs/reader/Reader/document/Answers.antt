-- A start, what it holds, and its end.
use Rattle.std.proofs.Common.{subst, sym, ◌∙◌}
use Rattle.yaml_direct.specs.Tokens.{IsCounted}
use Rattle.yaml_direct.proofs.BracketReads.{of_kept, unnamed_kept}
use Rattle.yaml_direct.proofs.StandReads.{document_has}
use Rattle.yaml_direct.proofs.StandSteps.{counted_same}
use Rattle.yaml_direct.proofs.reader.Reader.document.Goals as goal

pub returns-clause-found : goal.returns-clause-found
returns-clause-found c = λ text earlier of none counted inside content bare directed some.
    let old = c.args.self.now in
    let a = c.push_bound-place.new.self in
    let b = c.directed_content-place.new.self in
    let new = c.push_bound.new.self in
    let start = c.push_bound-place.ensures in
    let p = c.directed_content-place.ensures in
    let end = c.push_bound.ensures in
    let j = c.directed_content-place.result in
    let of_a = of_kept text old a of start.kept.0 in
    let x = p.found text earlier of_a (unnamed_kept old a start.names none)
    (counted_same old a c.args.place start.kept.0 start.kept.1.0 counted) inside content bare directed c.if-place-2.false in
    document_has text earlier old a b new c.args.place j c.push_bound.result c.spot.result c.end_spot-mark.result of
    c.spot.ensures.0 c.spot.ensures.1 (start.added c.if-place.false) x (p.reached.0 ∙ of_a.same)
    c.end_spot-mark.ensures.ended (end.added some) end.names (end.there some)
    (subst (λ q. IsCounted new q) (sym (end.there some)) (counted_same b new j end.kept.0 end.kept.1.0 x.counted))

pub returns-then-place-2-clause-missed : goal.returns-then-place-2-clause-missed
returns-then-place-2-clause-missed c = λ text earlier of none counted inside content token bare takes lost fed.
    let old = c.args.self.now in
    let a = c.push_bound-place.new.self in
    let start = c.push_bound-place.ensures in
    c.directed_content-place.ensures.missed text earlier (of_kept text old a of start.kept.0)
    (unnamed_kept old a start.names none) (counted_same old a c.args.place start.kept.0 start.kept.1.0 counted) inside
    content token bare takes c.if-place-2.true fed
