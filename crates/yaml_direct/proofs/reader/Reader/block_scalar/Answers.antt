-- All of a block, or what leaves it.
use Rattle.std.proofs.Common.{◌≡◌, ◌≤◌, ◌+◌, ◌++◌, ◌==◌, ◌∙◌, ap, arith, drop, length, refl, replicate, slice_range, subst, sym}
use Rattle.std.proofs.Common.{true}
use Rattle.std.proofs.lemmas.List.{length-drop}
use Rattle.yaml_direct.specs.Added.{AddsScalar}
use Rattle.yaml_direct.specs.BlockRows.{HasNoBlock, kept_feeds}
use Rattle.yaml_direct.proofs.BlockAdded.{block_added, block_left, counted_behind, line_begin_kept, no_sharp_there}
use Rattle.yaml_direct.proofs.BlockAdded.{step_is}
use Rattle.yaml_direct.proofs.BlockWhole.{no_block, put_behind, size_within, small_step}
use Rattle.yaml_direct.proofs.ReaderLaws.{short_text}
use Rattle.yaml_direct.proofs.reader.Reader.block_scalar.Goals as goal
use Rattle.yaml_grammar.specs.BlockTexts.{header_of}
use Rattle.yaml_grammar.specs.Bytes.{at, is_text}
use Rattle.yaml_grammar.specs.Gaps.{next}

pub returns-then-place-clause-found : goal.returns-then-place-clause-found
returns-then-place-clause-found c = λ h few begins some. absurd (some refl)

pub returns-then-place-clause-missed : goal.returns-then-place-clause-missed
returns-then-place-clause-missed c =
    let text = c.args.self.now.text.now in
    let from = c.args.from in
    let rest = length-drop (from + 1) text in
    let size = size_within (drop (from + 1) text) in
    let short = short_text c.args.self.now in
    λ h few begins none fed. no_block text c.args.least from (from + 1) (omega arith) begins
    (omega (arith, size, rest, c.requires.within))
    ((c.read_header-header.ensures.read h (omega (arith, short))).missed c.if-place.true)

pub returns-then-place-2-clause-found : goal.returns-then-place-2-clause-found
returns-then-place-2-clause-found c = λ h few begins some. absurd (some refl)

pub returns-then-place-2-clause-missed : goal.returns-then-place-2-clause-missed
returns-then-place-2-clause-missed c =
    let self = c.args.self.now in
    let text = self.text.now in
    let from = c.args.from in
    let header = c.read_header-header.result in
    let short = short_text self in
    λ h few begins none fed.
    let head = c.read_header-header.ensures.read h (omega (arith, short)) in
    let remark = head.found c.if-place.false in
    let digit = small_step (drop (from + 1) text) in
    let small : header.step ≤ 9 = omega (arith, digit, head.step) in
    block_left text c.args.least from (from + 1) header.end (omega arith) begins
    (c.read_header-header.ensures.within c.if-place.false).1 remark
    (subst (λ s. HasNoBlock text (at text from == 62) s c.args.least header.end) head.step
    (c.block_text-place.ensures.missed h few small remark.ends refl c.if-place-2.true fed))

pub returns-then-place-3-clause-found : goal.returns-then-place-3-clause-found
returns-then-place-3-clause-found c = λ h few begins some. absurd (some refl)

pub returns-clause-missed : goal.returns-clause-missed
returns-clause-missed c =
    let self = c.args.self.now in
    let mid = c.block_text-place.new.self in
    let lines = c.block_text-place.ensures in
    let fed = c.push_feeds.ensures in
    let push = c.push_piece-place.ensures in
    let pushed = c.push_piece-place.new.self in
    let short = short_text self in
    let same' = push.kept.0 ∙ (fed.kept.0 ∙ lines.reached.0) in
    λ h few begins none kept.
    let remark = (c.read_header-header.ensures.read h (omega (arith, short))).found c.if-place.false in
    let begun = line_begin_kept mid pushed c.block_text-place.result (push.kept.0 ∙ fed.kept.0)
    (push.kept.1.0 ∙ fed.kept.1.0) (lines.begun remark.ends c.if-place-2.false) in
    absurd (no_sharp_there pushed c.block_text-place.result begun
    (c.gap.ensures.missed (subst (λ t. is_text t ≡ true) (sym same') h) none))

pub returns-clause-found : goal.returns-clause-found
returns-clause-found c =
    let self = c.args.self.now in
    let text = self.text.now in
    let from = c.args.from in
    let header = c.read_header-header.result in
    let mid = c.block_text-place.new.self in
    let block = c.block_text-place.new.block in
    let lines = c.block_text-place.ensures in
    let end = c.block_text-place.result in
    let fed = c.push_feeds.ensures in
    let filled = c.push_feeds.new.self in
    let push = c.push_piece-place.ensures in
    let pushed = c.push_piece-place.new.self in
    let gap = c.gap.ensures in
    let here = c.requires in
    let written = header_of (drop (from + 1) text) in
    let short = short_text self in
    λ h few begins some.
    let head = c.read_header-header.ensures.read h (omega (arith, short)) in
    let remark = head.found c.if-place.false in
    let digit = small_step (drop (from + 1) text) in
    let small : header.step ≤ 9 = omega (arith, digit, head.step) in
    let lines_reached = lines.reached.1.1 c.if-place-2.false in
    let within : header.end ≤ length text = (c.read_header-header.ensures.within c.if-place.false).1 in
    let read = lines.found h few small remark.ends (refl, refl) c.if-place-2.false in
    let r = step_is text (at text from == 62) header.step written.step c.args.least header.end end
    self.tape.arena.items mid.tape.arena.items block head.step read in
    let said = put_behind self.tape.arena.items r.said (replicate c.feeds_kept.result 10) filled.tape.arena.items
    c.len-start.result (omega (arith, c.len-start.ensures, self.tape.arena.ok)) (fed.line c.if-not-push_feeds.false
    ∙ ap (λ x. x ++ replicate c.feeds_kept.result 10) r.added)
    ∙ ap (λ n. r.said ++ replicate n 10) (c.feeds_kept.ensures ∙ ap (λ x. kept_feeds x block) head.chomping) in
    let size : c.len.result ≡ length filled.tape.arena.items = omega (arith, c.len.ensures, filled.tape.arena.ok) in
    let same = fed.kept.0 ∙ lines.reached.0 in
    let same' = push.kept.0 ∙ same in
    let h' = subst (λ t. is_text t ≡ true) (sym same') h in
    let next_is = gap.found h' some in
    let reached = gap.reached.1.1 some in
    let begun = line_begin_kept mid pushed end (push.kept.0 ∙ fed.kept.0) (push.kept.1.0 ∙ fed.kept.1.0)
    (lines.begun remark.ends c.if-place-2.false) in
    block_added self filled pushed c.gap.new.self c.args.least from (from + 1) header.end end c.gap.result
    self.tape.arena.items mid.tape.arena.items block _ c.block_style-style.result (omega arith) begins within remark r
    said c.block_style-style.ensures (fed.events ∙ lines.events) same (fed.kept.1.1.0 ∙ lines.start)
    (fed.names ∙ lines.names)
    (subst (λ n. AddsScalar filled pushed (slice_range filled.tape.arena.items c.len-start.result n)
    c.block_style-style.result end) size (push.added c.if-place-3.false)) gap.still gap.names
    (subst (λ t. c.gap.result ≡ next t end) same' next_is.there)
    (counted_behind pushed c.gap.new.self end c.gap.result begun next_is gap.reached.0 reached.0 reached.1.1)
