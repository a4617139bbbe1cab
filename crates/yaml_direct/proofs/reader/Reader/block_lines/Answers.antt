-- A line with text more, the last one, and what stands behind the block.
use Rattle.std.proofs.Common.{◌≡◌, ◌≢◌, ◌+◌, ◌++◌, ◌-◌, ◌≤◌, ◌⊎◌, ◌∙◌, ap, arith, inl, inr, length, refl}
use Rattle.std.proofs.Common.{slice_range, subst, sym}
use Rattle.yaml_direct.specs.Blocks.{begins_blank, joins, joint}
use Rattle.yaml_direct.specs.Bytes.{at}
use Rattle.yaml_direct.specs.declared.block_scalar.Block.{Block}
use Rattle.yaml_direct.proofs.Growing.{grows_on}
use Rattle.yaml_direct.proofs.RowsRead.{row_some, rows_begin, rows_last, rows_next, rows_over, rows_tab}
use Rattle.yaml_tape.specs.Pushes.{marked_on}
use Rattle.yaml_direct.proofs.reader.Reader.block_lines.Goals as goal
use Rattle.yaml_direct.proofs.reader.Reader.block_lines.Goals.{then-lines-test+else-next-indent, else-lines-test}

pub lines-init : goal.lines-init
lines-init c =
    let text = c.args.self.now.text.now in
    let old = c.args.block.now in
    let lines = c.empties-next.result in
    let empty = c.empties-next.ensures in
    let pass = c.pass_lines.ensures in
    let block : Block = record { folds = old.folds; begun = old.begun; blank = old.blank; feeds = lines.count } in
    record {
      grows = pass.grows;
      longer = omega (arith, ap (λ t. length t.arena.items) pass.tape);
      low = empty.places.2;
      begun = pass.begun;
      high = empty.places.0;
      within = empty.places.1;
      text = pass.text;
      start = pass.start;
      events = ap marked_on pass.tape;
      names = pass.names;
      feed = empty.feed;
      indented = λ h. (empty.read h).indented;
      some = λ h. (empty.read h).some;
      rows = λ h begun. rows_begin text old.folds c.args.indent c.args.from lines.line lines.count
          c.args.self.now.tape.arena.items c.pass_lines.new.self.tape.arena.items block refl begun refl
          (ap (λ t. t.arena.items) pass.tape) (empty.read h).empty;
    }

pub returns-then-end-text-clause-found : goal.returns-then-end-text-clause-found
returns-then-end-text-clause-found c =
    let text = c.args.self.now.text.now in
    let i = c.lines.invariant in
    let place = c.lines.next.place in
    let e = c.line_end-end.result in
    let end = c.line_end-end.ensures in
    let now = c.lines.self.tape.arena.items in
    let more = c.push_line.new.self.tape.arena.items in
    let block = c.lines.block in
    λ h begun some.
    rows_last text c.args.block.now.folds c.args.indent c.args.from c.lines.next.line c.lines.next.count place e
    c.args.self.now.tape.arena.items now more block c.push_line.new.block (i.rows h begun) (i.indented h)
    c.if-next-indent.true (row_some text place e (i.some h) c.lines-test.true end.forward end.ends) c.if-end-text.true
    end.inside
    (subst (λ k. more ≡ (now ++ joint (joins block (slice_range text place k)) block.feeds) ++ slice_range text place k)
    (c.text_end-stop.ensures.same h) (c.push_line.ensures.line c.if-not-push_line.false))
    c.push_line.ensures.row.1.1.1

pub lines-preserved : goal.lines-preserved
lines-preserved c =
    let text = c.args.self.now.text.now in
    let i = c.lines.invariant in
    let place = c.lines.next.place in
    let e = c.line_end-end.result in
    let end = c.line_end-end.ensures in
    let now = c.lines.self.tape.arena.items in
    let block = c.lines.block in
    let push = c.push_line.ensures in
    let after = c.push_line.new.block in
    let lines = c.empties-next-in-lines.result in
    let empty = c.empties-next-in-lines.ensures in
    let pass = c.pass_lines-in-lines.ensures in
    let more = c.pass_lines-in-lines.new.self.tape.arena.items in
    let pushed = c.push_line.new.self.tape.arena.items in
    let next : Block = record {
      folds = after.folds;
      begun = after.begun;
      blank = after.blank;
      feeds = lines.count + 1;
    } in
    let feed : at text e ≡ 10 = elim end.ends [
      | inl is ↦ is
      | inr past ↦ absurd (c.if-end-text.false (omega (arith, past, end.within)))
    ] in
    record {
      grows = grows_on c.args.self.now c.lines.self c.pass_lines-in-lines.new.self i.grows
          (grows_on c.lines.self c.push_line.new.self c.pass_lines-in-lines.new.self push.kept.1.1.1 pass.grows);
      longer = omega (arith, i.longer, push.longer, ap (λ t. length t.arena.items) pass.tape);
      low = omega (arith, i.low, i.high, end.forward, empty.places.2);
      begun = pass.begun;
      high = empty.places.0;
      within = empty.places.1;
      text = pass.text ∙ (push.kept.0 ∙ i.text);
      start = pass.start ∙ (push.kept.1.1.0 ∙ i.start);
      events = ap marked_on pass.tape ∙ (push.events ∙ i.events);
      names = pass.names ∙ (push.names ∙ i.names);
      feed = λ _. empty.feed (let back : e ≡ e + 1 - 1 = omega arith in ap (at text) (sym back) ∙ feed);
      indented = λ h. (empty.read h).indented;
      some = λ h. (empty.read h).some;
      rows = λ h begun.
          let same = c.text_end-stop.ensures.same h in
          rows_next text c.args.block.now.folds c.args.indent c.args.from c.lines.next.line c.lines.next.count place e
          lines.line lines.count c.args.self.now.tape.arena.items now more block next (i.rows h begun) (i.indented h)
          c.if-next-indent.true (row_some text place e (i.some h) c.lines-test.true end.forward end.ends) end.within
          end.inside feed
          (ap (λ t. t.arena.items) pass.tape
          ∙ subst (λ k. pushed ≡ (now ++ joint (joins block
          (slice_range text place k)) block.feeds) ++ slice_range text place k)
          same (push.line c.if-not-push_line.false))
          push.row.0 push.row.1.0
          (subst (λ k. after.blank ≡ begins_blank (slice_range text place k)) same push.row.1.1.0) refl
          (empty.read h).empty;
    }

pub returns-then-at-eq9-clause-missed : goal.returns-then-at-eq9-clause-missed
returns-then-at-eq9-clause-missed c =
    let text = c.args.self.now.text.now in
    let i = c.lines.invariant in
    let place = c.lines.next.place in
    let why : (length text ≤ place) ⊎ (place - c.lines.next.line ≢ c.args.indent) = elim c.lines-test.branch [
      | then-lines-test+else-next-indent w ↦ inr w.if-next-indent.false
      | else-lines-test w ↦ inl w.lines-test.false
    ] in
    λ h begun none fed.
    rows_tab text c.args.block.now.folds c.args.indent c.args.from c.lines.next.line c.lines.next.count place
    c.args.self.now.tape.arena.items c.lines.self.tape.arena.items c.lines.block (i.rows h begun)
    (i.indented h) i.within
    (sym c.at.ensures.value ∙ c.if-at-eq9.true) why

pub returns-clause-found : goal.returns-clause-found
returns-clause-found c =
    let text = c.args.self.now.text.now in
    let i = c.lines.invariant in
    let place = c.lines.next.place in
    let why : (length text ≤ place) ⊎ (place - c.lines.next.line ≢ c.args.indent) = elim c.lines-test.branch [
      | then-lines-test+else-next-indent w ↦ inr w.if-next-indent.false
      | else-lines-test w ↦ inl w.lines-test.false
    ] in
    λ h begun some.
    rows_over text c.args.block.now.folds c.args.indent c.args.from c.lines.next.line c.lines.next.count place
    c.args.self.now.tape.arena.items c.lines.self.tape.arena.items c.lines.block (i.rows h begun)
    (i.indented h) i.within
    (i.some h) why

pub returns-clause-begun : goal.returns-clause-begun
returns-clause-begun c =
    let i = c.lines.invariant in
    λ e some. inl (sym i.begun, ap (λ t. at t (c.lines.next.line - 1)) i.text ∙ i.feed e)
