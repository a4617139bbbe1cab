-- Behind a directive, or without.
use Rattle.std.proofs.Common.{ap, length, subst, sym, ◌<◌, ◌∙◌}
use Rattle.yaml_direct.specs.Gaps.{begins_token}
use Rattle.yaml_direct.specs.LeftDocuments.{LeavesDirective}
use Rattle.yaml_direct.proofs.BracketReads.{of_allowed, of_kept}
use Rattle.yaml_direct.proofs.CountedLaws.{counted_lined}
use Rattle.yaml_direct.proofs.DocumentLeaves.{goes_from, no_content, no_directive_document, no_end}
use Rattle.yaml_direct.proofs.StandReads.{content_counted, directed_counted, directed_has, directed_unnamed}
use Rattle.yaml_direct.proofs.reader.Reader.directed_content.Goals as goal
use Rattle.yaml_grammar.specs.Bytes.{is_over}

pub returns-clause-found : goal.returns-clause-found
returns-clause-found c = λ text earlier of none counted inside content bare directed some.
    let old = c.args.self.now in
    let m = c.directives-place.new.self in
    let new = c.content_at-place.new.self in
    let first = c.directives-place.ensures in
    let then = c.content_at-place.ensures in
    let i = c.args.place in
    let k = c.directives-place.result in
    let j = c.content_at-place.result in
    let of_m = of_kept text old m of first.reached.0 in
    let of_new = of_kept text m new of_m then.reached.0 in
    let d = first.found (of_allowed text old of) counted c.if-place.false in
    let x = then.found text of_m (directed_unnamed c.args.directed old m i k d none)
    (directed_counted c.args.directed old m i k d counted) inside content c.if-place-2.false in
    let low = then.reached.1.1 c.if-place-2.false in
    let over = ap (λ t. is_over t j) (sym of_new.same)
    ∙ sym (c.if-not-is_over.ensures.same (of_allowed text new of_new)
    (counted_lined new j low.1.0 (content_counted text c.args.bare i m new k j x))) in
    directed_has text earlier old m new c.args.bare c.args.directed i k j of.same d bare directed inside content over x

pub returns-then-place-clause-missed : goal.returns-then-place-clause-missed
returns-then-place-clause-missed c = λ text earlier of none counted inside content token bare takes lost fed.
    let old = c.args.self.now in
    let i = c.args.place in
    no_directive_document text earlier c.args.directed i
    (subst (λ t. LeavesDirective t c.args.directed i) of.same
    (c.directives-place.ensures.missed (of_allowed text old of) counted (subst (λ t. i < length t) (sym of.same) inside)
    c.if-place.true)) takes

pub returns-then-place-2-clause-missed : goal.returns-then-place-2-clause-missed
returns-then-place-2-clause-missed c = λ text earlier of none counted inside content token bare takes lost fed.
    let old = c.args.self.now in
    let m = c.directives-place.new.self in
    let first = c.directives-place.ensures in
    let i = c.args.place in
    let k = c.directives-place.result in
    let d = first.found (of_allowed text old of) counted c.if-place.false in
    let g = goes_from text c.args.directed old m i k of.same d
    (first.none (of_allowed text old of) counted (subst (λ t. i < length t) (sym of.same) inside)) in
    no_content text earlier c.args.bare i k bare g
    (c.content_at-place.ensures.missed text (of_kept text old m of first.reached.0)
    (directed_unnamed c.args.directed old m i k d none) (directed_counted c.args.directed old m i k d counted)
    (λ same. ap (begins_token text) same ∙ token) c.if-place-2.true fed)

pub returns-then-not-is_over-clause-missed : goal.returns-then-not-is_over-clause-missed
returns-then-not-is_over-clause-missed c = λ text earlier of none counted inside content token bare takes lost fed.
    let old = c.args.self.now in
    let m = c.directives-place.new.self in
    let new = c.content_at-place.new.self in
    let first = c.directives-place.ensures in
    let then = c.content_at-place.ensures in
    let i = c.args.place in
    let k = c.directives-place.result in
    let j = c.content_at-place.result in
    let of_m = of_kept text old m of first.reached.0 in
    let of_new = of_kept text m new of_m then.reached.0 in
    let d = first.found (of_allowed text old of) counted c.if-place.false in
    let g = goes_from text c.args.directed old m i k of.same d
    (first.none (of_allowed text old of) counted (subst (λ t. i < length t) (sym of.same) inside)) in
    let x = then.found text of_m (directed_unnamed c.args.directed old m i k d none)
    (directed_counted c.args.directed old m i k d counted) inside content c.if-place-2.false in
    let low = then.reached.1.1 c.if-place-2.false in
    let out = ap (λ t. is_over t j) (sym of_new.same)
    ∙ sym (c.if-not-is_over.ensures.same (of_allowed text new of_new)
    (counted_lined new j low.1.0 (content_counted text c.args.bare i m new k j x))) in
    no_end text earlier c.args.bare i k j m new g x out
