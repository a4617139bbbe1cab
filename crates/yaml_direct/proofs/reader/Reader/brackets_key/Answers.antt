-- A collection in a line is a key.
use Rattle.std.proofs.Common.{◌≡◌, ◌&&◌, ◌∙◌, ap, arith, false, not, refl, subst, sym}
use Rattle.yaml_direct.specs.Gaps.{InLine}
use Rattle.yaml_direct.proofs.BracketReads.{of_allowed, of_kept}
use Rattle.yaml_direct.proofs.BracketNothing.{none_brackets}
use Rattle.yaml_direct.proofs.KeyFails.{leaves_key, read_no_key, unread_no_key}
use Rattle.yaml_direct.proofs.KeyMisses.{ends_far, ends_lines, ends_no_colon}
use Rattle.yaml_direct.proofs.KeyReads.{brackets_key_read, ends_key_in, key_at, line_in, line_short}
use Rattle.yaml_direct.proofs.ReaderLaws.{short_text}
use Rattle.yaml_direct.proofs.reader.Reader.brackets_key.Goals as goal
use Rattle.yaml_grammar.specs.Bytes.{is_mark, is_one_line}
use Rattle.yaml_grammar.specs.Gaps.{breaks, next}

pub returns-clause-found : goal.returns-clause-found
returns-clause-found c = λ text of begins b opened some.
    let old = c.args.self.now in
    let new = c.flow-place.new.self in
    let flow = c.flow-place.ensures in
    let end = c.flow-place.result in
    let colon = c.colon_behind-place.result in
    let of_new = of_kept text old new of flow.reached.0 in
    let low = flow.reached.1.1 c.if-place.false in
    let within = c.colon_behind-place.ensures.within c.if-place-2.false in
    let ends = ends_key_in text new end colon of_new.same
    (c.colon_behind-place.ensures.found (of_allowed text new of_new) c.if-place-2.false) in
    let whole = line_in text new c.args.from colon of_new.same (c.is_one_line.ensures.line c.if-not-is_one_line.false) in
    let line = subst (λ i. InLine text i end) (sym begins) (line_short text c.args.from colon end within.0 whole) in
    key_at text old new c.args.depth c.args.from colon colon begins refl
    (brackets_key_read text old new c.args.depth c.args.place end colon b
    (flow.found text of b.early opened c.if-place.false) ends line
    (omega (arith, begins, c.requires.part, low.0)) (omega (arith, begins, c.if-colon-from.false)))

pub returns-then-place-clause-missed : goal.returns-then-place-clause-missed
returns-then-place-clause-missed c = λ text of begins b opened failed fed.
    let old = c.args.self.now in
    let d = c.args.depth in
    leaves_key text d old c.args.from begins
    (unread_no_key text d old c.args.place b opened
    (none_brackets text d c.args.place (c.flow-place.ensures.missed text of opened c.if-place.true fed)))

pub returns-then-place-2-clause-missed : goal.returns-then-place-2-clause-missed
returns-then-place-2-clause-missed c = λ text of begins b opened failed fed.
    let old = c.args.self.now in
    let new = c.flow-place.new.self in
    let flow = c.flow-place.ensures in
    let d = c.args.depth in
    let end = c.flow-place.result in
    let of_new = of_kept text old new of flow.reached.0 in
    let x = flow.found text of b.early opened c.if-place.false in
    let low = flow.reached.1.1 c.if-place.false in
    let colon = subst (λ t. (not (breaks t end) && is_mark t 58 (next t end)) ≡ false) of_new.same
    (c.colon_behind-place.ensures.missed (of_allowed text new of_new) (short_text new) c.if-place-2.true) in
    leaves_key text d old c.args.from begins
    (read_no_key text d end old c.args.place x.what.node b opened x.what.stands
    (ends_no_colon text old.start.index end (omega (arith, begins, c.requires.part, low.0)) colon))

pub returns-then-colon-from-clause-missed : goal.returns-then-colon-from-clause-missed
returns-then-colon-from-clause-missed c = λ text of begins b opened failed fed.
    let old = c.args.self.now in
    let new = c.flow-place.new.self in
    let flow = c.flow-place.ensures in
    let d = c.args.depth in
    let end = c.flow-place.result in
    let colon = c.colon_behind-place.result in
    let of_new = of_kept text old new of flow.reached.0 in
    let x = flow.found text of b.early opened c.if-place.false in
    let ends = ends_key_in text new end colon of_new.same
    (c.colon_behind-place.ensures.found (of_allowed text new of_new) c.if-place-2.false) in
    leaves_key text d old c.args.from begins
    (read_no_key text d end old c.args.place x.what.node b opened x.what.stands
    (ends_far text old.start.index end colon ends.there (omega (arith, begins, c.if-colon-from.true))))

pub returns-then-not-is_one_line-clause-missed : goal.returns-then-not-is_one_line-clause-missed
returns-then-not-is_one_line-clause-missed c = λ text of begins b opened failed fed.
    let old = c.args.self.now in
    let new = c.flow-place.new.self in
    let flow = c.flow-place.ensures in
    let d = c.args.depth in
    let end = c.flow-place.result in
    let colon = c.colon_behind-place.result in
    let of_new = of_kept text old new of flow.reached.0 in
    let x = flow.found text of b.early opened c.if-place.false in
    let ends = ends_key_in text new end colon of_new.same
    (c.colon_behind-place.ensures.found (of_allowed text new of_new) c.if-place-2.false) in
    leaves_key text d old c.args.from begins
    (read_no_key text d end old c.args.place x.what.node b opened x.what.stands
    (ends_lines text old.start.index end
    (ap (λ i. is_one_line text i (next text end)) begins ∙ ap (is_one_line text c.args.from) (sym ends.there)
    ∙ ap (λ t. is_one_line t c.args.from colon) (sym of_new.same)
    ∙ c.is_one_line.ensures.lines c.if-not-is_one_line.true)))
