-- Plain text in a line is a key.
use Rattle.std.proofs.Common.{◌≡◌, ◌&&◌, ◌∙◌, ap, arith, false, not, refl, slice_range, subst, sym}
use Rattle.yaml_base.specs.declared.event.ScalarStyle.TheVariants as style
use Rattle.yaml_direct.proofs.AddedLeaves.{plain_read, scalar_leaf}
use Rattle.yaml_direct.proofs.BracketLeaves.{begins_first, behind_none, first_stays}
use Rattle.yaml_direct.proofs.BracketReads.{of_allowed}
use Rattle.yaml_direct.proofs.KeyReads.{ends_key_in, key_at, leaf_key_read, line_in}
use Rattle.yaml_direct.proofs.KeyMisses.{ends_far, ends_no_colon, key_none, leaf_no_key}
use Rattle.yaml_direct.proofs.LineLaws.{plain_line}
use Rattle.yaml_direct.proofs.ReaderLaws.{short_text}
use Rattle.yaml_direct.proofs.reader.Reader.plain_key.Goals as goal
use Rattle.yaml_grammar.specs.Bytes.{is_mark}
use Rattle.yaml_grammar.specs.Gaps.{breaks, next}
use Rattle.yaml_grammar.specs.Leaves.{in_style, leaf_at}
use Rattle.yaml_grammar.specs.Names.{unnamed}
use Rattle.yaml_grammar.specs.Plain.{as_key, begins_plain}
use Rattle.yaml_reading.proofs.Begins.{stays}

pub returns-clause-found : goal.returns-clause-found
returns-clause-found c = λ text depth of none early begins some.
    let old = c.args.self.now in
    let place = c.args.place in
    let new = c.push_text.new.self in
    let end = c.plain_end-end.result in
    let line = c.plain_end-end.ensures in
    let colon = c.colon_behind-place.result in
    let said = slice_range old.text.now place end in
    let b = behind_none text false old place c.requires.begun early none
    (first_stays text place (begins_first text false place begins)) in
    let read = line.key (of_allowed text old of) refl (ap (λ t. begins_plain t false place) of.same ∙ begins) in
    let a = scalar_leaf old new as_key place end said style.Plain
    (plain_read old.text.now as_key place end said line.forward read) early (c.push_text.ensures.added some) in
    let ends = ends_key_in text old end colon of.same (c.colon_behind-place.ensures.found (of_allowed text old of) c.if-place.false) in
    key_at text old new depth place colon c.push_text.result c.requires.begun (c.push_text.ensures.there some)
    (leaf_key_read text old new depth place end colon of b a ends line.forward (omega (arith, c.requires.begun))
    (line_in text old place end of.same (plain_line old.text.now false place end line.line))
    (omega (arith, c.requires.begun, c.if-colon-place.false)))

pub returns-then-place-clause-missed : goal.returns-then-place-clause-missed
returns-then-place-clause-missed c = λ text depth of none early begins failed fed.
    let old = c.args.self.now in
    let place = c.args.place in
    let end = c.plain_end-end.result in
    let line = c.plain_end-end.ensures in
    let h = of_allowed text old of in
    let s = stays text place (first_stays text place (begins_first text false place begins)) in
    let read = line.key h refl (ap (λ t. begins_plain t false place) of.same ∙ begins) in
    let leaf = plain_read old.text.now as_key place end (slice_range old.text.now place end) line.forward read in
    let colon = subst (λ t. (not (breaks t end) && is_mark t 58 (next t end)) ≡ false) of.same
    (c.colon_behind-place.ensures.missed h (short_text old) c.if-place.true) in
    key_none text depth place
    (leaf_no_key text depth place place end unnamed (in_style style.Plain (slice_range old.text.now place end))
    (s.names false) (ap (leaf_at text as_key) s.here ∙ (ap (λ t. leaf_at t as_key place) (sym of.same) ∙ leaf))
    (ends_no_colon text place end line.forward colon))

pub returns-then-colon-place-clause-missed : goal.returns-then-colon-place-clause-missed
returns-then-colon-place-clause-missed c = λ text depth of none early begins failed fed.
    let old = c.args.self.now in
    let place = c.args.place in
    let end = c.plain_end-end.result in
    let line = c.plain_end-end.ensures in
    let colon = c.colon_behind-place.result in
    let h = of_allowed text old of in
    let s = stays text place (first_stays text place (begins_first text false place begins)) in
    let read = line.key h refl (ap (λ t. begins_plain t false place) of.same ∙ begins) in
    let leaf = plain_read old.text.now as_key place end (slice_range old.text.now place end) line.forward read in
    let ends = ends_key_in text old end colon of.same (c.colon_behind-place.ensures.found h c.if-place.false) in
    key_none text depth place
    (leaf_no_key text depth place place end unnamed (in_style style.Plain (slice_range old.text.now place end))
    (s.names false) (ap (leaf_at text as_key) s.here ∙ (ap (λ t. leaf_at t as_key place) (sym of.same) ∙ leaf))
    (ends_far text place end colon ends.there (omega (arith, c.if-colon-place.true))))
