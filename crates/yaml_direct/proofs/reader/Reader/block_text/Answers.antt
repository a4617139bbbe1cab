-- Its first line alone, and the lines behind it.
use Rattle.std.proofs.Common.{◌≡◌, ◌+◌, ◌-◌, ◌<◌, ◌∙◌, ap, arith, inl, inr, length, refl, sym}
use Rattle.yaml_direct.proofs.BlockWhole.{no_indent, rows_behind_line, tab_behind, whole_line}
use Rattle.yaml_direct.proofs.ReaderLaws.{no_such_place, short_text}
use Rattle.yaml_direct.proofs.reader.Reader.block_text.Goals as goal
use Rattle.yaml_grammar.specs.Bytes.{at}

pub returns-then-header-text-clause-found : goal.returns-then-header-text-clause-found
returns-then-header-text-clause-found c =
    let arena = c.args.self.now.tape.arena.items in
    λ h few small ends fresh some. whole_line c.args.self.now.text.now c.args.block.now.folds c.args.header.step
    c.args.least c.args.header.end arena arena c.args.block.now (omega (arith, c.if-header-text.true)) refl fresh.1

pub returns-then-header-text-clause-missed : goal.returns-then-header-text-clause-missed
returns-then-header-text-clause-missed c =
    λ h few small ends begun none fed. absurd (no_such_place c.args.self.now c.args.header.end c.requires.here.1 none)

pub returns-then-place-clause-missed : goal.returns-then-place-clause-missed
returns-then-place-clause-missed c =
    let self = c.args.self.now in
    let here = c.requires.here in
    let inside : c.args.header.end < length self.text.now = omega (arith, c.if-header-text.false, here.1) in
    λ h few small ends begun none fed. no_indent self.text.now c.args.block.now.folds c.args.header.step c.args.least
    c.args.header.end inside (c.indentation-place.ensures.missed h (short_text self, few) small c.if-place.true)

pub returns-clause-begun : goal.returns-clause-begun
returns-clause-begun c =
    let text = c.args.self.now.text.now in
    let end = c.args.header.end in
    let here = c.requires.here in
    λ ends some.
    let feed : at text end ≡ 10 = elim ends [
      | inl is ↦ is
      | inr past ↦ absurd (omega (arith, past, c.if-header-text.false, here.1))
    ] in
    let back : end ≡ end + 1 - 1 = omega arith in
    c.block_lines.ensures.begun (ap (at text) (sym back) ∙ feed) some

pub returns-clause-found : goal.returns-clause-found
returns-clause-found c =
    let self = c.args.self.now in
    let here = c.requires.here in
    let inside : c.args.header.end < length self.text.now = omega (arith, c.if-header-text.false, here.1) in
    λ h few small ends fresh some. rows_behind_line self.text.now c.args.block.now.folds c.args.header.step c.args.least
    c.args.header.end c.indentation-place.result c.block_lines.result self.tape.arena.items
    c.block_lines.new.self.tape.arena.items c.block_lines.new.block inside (c.block_lines.ensures.reached.1.1 some).0
    (c.indentation-place.ensures.found h (short_text self, few) small c.if-place.false)
    (c.block_lines.ensures.found h fresh.0 some)

pub returns-clause-missed : goal.returns-clause-missed
returns-clause-missed c =
    let self = c.args.self.now in
    let here = c.requires.here in
    let inside : c.args.header.end < length self.text.now = omega (arith, c.if-header-text.false, here.1) in
    λ h few small ends begun none fed. tab_behind self.text.now c.args.block.now.folds c.args.header.step c.args.least
    c.args.header.end c.indentation-place.result inside
    (c.indentation-place.ensures.found h (short_text self, few) small c.if-place.false)
    (c.block_lines.ensures.missed h begun none fed)
