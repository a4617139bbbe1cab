-- Behind names, or without.
use Rattle.std.proofs.Common.{◌<◌, ◌≡◌, ◌&&◌, ◌∙◌, ap, arith, false, not, subst, sym}
use Rattle.yaml_direct.specs.Bytes.{AreBlanks}
use Rattle.yaml_direct.specs.Held.{names_of}
use Rattle.yaml_direct.proofs.BracketLeaves.{behind_none}
use Rattle.yaml_direct.proofs.BracketReads.{has_from, of_allowed, of_kept}
use Rattle.yaml_direct.proofs.KeyFails.{behind_nothing}
use Rattle.yaml_direct.proofs.KeyMisses.{ends_no_colon, key_none, nameless_key}
use Rattle.yaml_direct.proofs.KeyReads.{behind_blanks, blanks_whole, content_stays, ends_key_in, over_parts}
use Rattle.yaml_direct.proofs.NameLines.{begins_names, first_byte, names_some}
use Rattle.yaml_direct.proofs.ReaderLaws.{short_text}
use Rattle.yaml_direct.proofs.reader.Reader.other_key.Goals as goal
use Rattle.yaml_direct.specs.Keys.{IsKey}
use Rattle.yaml_direct.specs.LeftByColumns.{IsBehindBlanks}
use Rattle.yaml_grammar.specs.Bytes.{at, is_mark}
use Rattle.yaml_grammar.specs.Gaps.{breaks, next}
use Rattle.yaml_grammar.specs.Names.{names_at}

pub returns-then-not-matches-clause-found : goal.returns-then-not-matches-clause-found
returns-then-not-matches-clause-found c = λ text of none begins early here some.
    let old = c.args.self.now in
    let from = c.args.from in
    c.content_key.ensures.found text of begins
    (λ content. behind_none text false old from begins early none (content_stays (at text from) content))
    (over_parts text from here) some

pub returns-then-colon-clause-found : goal.returns-then-colon-clause-found
returns-then-colon-clause-found c = λ text of none begins early here some.
    let old = c.args.self.now in
    let m = c.properties-place.new.self in
    let from = c.args.from in
    let end = c.properties-place.result in
    let p = c.properties-place.ensures in
    let colon = c.colon_behind-colon.result in
    let of_m = of_kept text old m of p.kept.0 in
    let start = p.kept.1.1.0 in
    let names = ap (λ t. names_at t false from) (sym of.same) ∙ p.found (of_allowed text old of) none c.if-place.false in
    let byte = first_byte (at text from) (ap (λ t. begins_names (at t from)) (sym of.same)
    ∙ grind (arith, c.if-not-matches.false, c.at.ensures.value)) in
    has_from old m c.empty_key.new.self (IsKey text c.args.depth from c.empty_key.result) p.still
    (c.empty_key.ensures.found text c.args.depth of_m (ap (λ s. s.index) start ∙ begins) names
    (names_some text false from (names_of m, end) byte names) (ap (λ s. s.late) start ∙ early)
    (ends_key_in text m end colon of_m.same (c.colon_behind-colon.ensures.found (of_allowed text m of_m) c.if-colon.true))
    some)

pub returns-clause-found : goal.returns-clause-found
returns-clause-found c = λ text of none begins early here some.
    let old = c.args.self.now in
    let m = c.properties-place.new.self in
    let from = c.args.from in
    let end = c.properties-place.result in
    let place = c.spaces_end-place.result in
    let p = c.properties-place.ensures in
    let of_m = of_kept text old m of p.kept.0 in
    let start = p.kept.1.1.0 in
    let index = ap (λ s. s.index) start ∙ begins in
    let names = ap (λ t. names_at t false from) (sym of.same) ∙ p.found (of_allowed text old of) none c.if-place.false in
    let byte = first_byte (at text from) (ap (λ t. begins_names (at t from)) (sym of.same)
    ∙ grind (arith, c.if-not-matches.false, c.at.ensures.value)) in
    let some_name = names_some text false from (names_of m, end) byte names in
    let blank = subst (λ t. AreBlanks t end place) of_m.same c.spaces_end-place.ensures.blanks in
    let low = c.spaces_end-place.ensures.forward in
    has_from old m c.content_key-2.new.self (IsKey text c.args.depth from c.content_key-2.result) p.still
    (c.content_key-2.ensures.found text of_m index
    (λ content. behind_blanks text m end place (ap (names_at text false) index ∙ names)
    (subst (λ i. i < end) (sym index) some_name) (ap (λ s. s.late) start ∙ early) low blank content)
    (blanks_whole text from end place (names_of m) of.allowed names some_name low blank) some)

pub returns-then-not-matches-clause-missed : goal.returns-then-not-matches-clause-missed
returns-then-not-matches-clause-missed c = λ text of none begins early here space failed fed.
    let old = c.args.self.now in
    let from = c.args.from in
    let byte : at text from ≡ c.at.result = ap (λ t. at t from) (sym of.same) ∙ sym c.at.ensures.value in
    let b = behind_nothing text old none (λ e. space (ap (at text) (sym begins) ∙ e))
    (λ e. grind (arith, c.if-not-matches.true, byte, ap (at text) (sym begins) ∙ e))
    (λ e. grind (arith, c.if-not-matches.true, byte, ap (at text) (sym begins) ∙ e)) in
    c.content_key.ensures.missed text of begins early (subst (λ k. IsBehindBlanks text old k) begins b)
    (over_parts text from here) failed fed

pub returns-then-place-clause-missed : goal.returns-then-place-clause-missed
returns-then-place-clause-missed c = λ text of none begins early here space failed fed.
    let old = c.args.self.now in
    let from = c.args.from in
    key_none text c.args.depth from
    (nameless_key text c.args.depth from
    (ap (λ t. names_at t false from) (sym of.same)
    ∙ c.properties-place.ensures.missed (of_allowed text old of) none c.if-place.true fed))

pub returns-then-colon-clause-missed : goal.returns-then-colon-clause-missed
returns-then-colon-clause-missed c = λ text of none begins early here space failed fed.
    let old = c.args.self.now in
    let m = c.properties-place.new.self in
    let from = c.args.from in
    let end = c.properties-place.result in
    let p = c.properties-place.ensures in
    let colon = c.colon_behind-colon.result in
    let of_m = of_kept text old m of p.kept.0 in
    let names = ap (λ t. names_at t false from) (sym of.same) ∙ p.found (of_allowed text old of) none c.if-place.false in
    c.empty_key.ensures.missed text c.args.depth of_m (ap (λ s. s.index) p.kept.1.1.0 ∙ begins) names
    (ends_key_in text m end colon of_m.same (c.colon_behind-colon.ensures.found (of_allowed text m of_m) c.if-colon.true))
    failed fed

pub returns-clause-missed : goal.returns-clause-missed
returns-clause-missed c = λ text of none begins early here space failed fed.
    let old = c.args.self.now in
    let m = c.properties-place.new.self in
    let from = c.args.from in
    let end = c.properties-place.result in
    let place = c.spaces_end-place.result in
    let p = c.properties-place.ensures in
    let of_m = of_kept text old m of p.kept.0 in
    let h = of_allowed text m of_m in
    let index = ap (λ s. s.index) p.kept.1.1.0 ∙ begins in
    let names = ap (λ t. names_at t false from) (sym of.same) ∙ p.found (of_allowed text old of) none c.if-place.false in
    let byte = first_byte (at text from) (ap (λ t. begins_names (at t from)) (sym of.same)
    ∙ grind (arith, c.if-not-matches.false, c.at.ensures.value)) in
    let some_name = names_some text false from (names_of m, end) byte names in
    let blank = subst (λ t. AreBlanks t end place) of_m.same c.spaces_end-place.ensures.blanks in
    let low = c.spaces_end-place.ensures.forward in
    let colon = subst (λ t. (not (breaks t end) && is_mark t 58 (next t end)) ≡ false) of_m.same
    (c.colon_behind-colon.ensures.missed h (short_text m) c.if-colon.false) in
    c.content_key-2.ensures.missed text of_m index (ap (λ s. s.late) p.kept.1.1.0 ∙ early)
    (record {
      end = end;
      names = ap (names_at text false) index ∙ names;
      low = low;
      blanks = blank;
      some = λ e. c.spaces_end-place.ensures.over (ap (λ t. at t place) of_m.same ∙ e);
      alone = λ less. ends_no_colon text m.start.index end (omega (arith, less)) colon;
    })
    (blanks_whole text from end place (names_of m) of.allowed names some_name low blank) failed fed
