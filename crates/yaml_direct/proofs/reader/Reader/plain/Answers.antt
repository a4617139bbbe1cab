-- One line, or more.
use Rattle.std.proofs.Common.{false, refl, slice_range, subst, sym, true, ◌≡◌}
use Rattle.yaml_base.specs.declared.event.ScalarStyle.TheVariants as style
use Rattle.yaml_direct.specs.Added.{AddsScalar}
use Rattle.yaml_direct.specs.PlainTexts.{IsFirstLine, LeavesPlain}
use Rattle.yaml_direct.specs.Tokens.{IsBehindLine}
use Rattle.yaml_direct.proofs.PlainLeaves.{adds_plain_from, line_behind, line_left, plain_added, plain_first}
use Rattle.yaml_direct.proofs.PlainLeaves.{within_here}
use Rattle.yaml_direct.proofs.PlainSays.{says_first}
use Rattle.yaml_direct.proofs.reader.Reader.plain.Goals as goal
use Rattle.yaml_grammar.specs.Bytes.{is_text}
use Rattle.yaml_grammar.specs.Plain.{by_columns}

pub returns-then-place-clause-found : goal.returns-then-place-clause-found
returns-then-place-clause-found c = λ h f some. absurd (some refl)

pub returns-then-place-clause-missed : goal.returns-then-place-clause-missed
returns-then-place-clause-missed c =
    let text = c.args.self.now.text.now in
    λ h f none fed. line_left text c.args.least c.args.from c.args.end (slice_range text c.args.from c.args.end) h
    (says_first (by_columns c.args.least) text c.args.from c.args.end h f c.requires.part c.requires.here.1)
    (c.margin-place.ensures.missed h c.if-place.true)

pub returns-then-is_within-clause-found : goal.returns-then-is_within-clause-found
returns-then-is_within-clause-found c =
    let margin = c.margin-place.ensures in
    let same = margin.reached.0 in
    let m = margin.reached.1.1 c.if-place.false in
    λ h f some. adds_plain_from c.args.self.now c.margin-place.new.self c.plain_lines.new.self c.args.least
    c.args.from c.plain_lines.result margin.still same margin.start margin.names
    (c.plain_lines.ensures.found (subst (λ t. is_text t ≡ true) (sym same) h)
    (subst (λ t. IsFirstLine t false c.args.from c.args.end) (sym same) f)
    (subst (λ t. IsBehindLine t c.margin-place.new.self c.args.end c.margin-place.result) (sym same)
    (line_behind c.args.self.now c.margin-place.new.self c.args.end c.margin-place.result
    (margin.found h c.if-place.false) same (margin.ended h c.if-place.false) m.1.1))
    some)

pub returns-then-is_within-clause-missed : goal.returns-then-is_within-clause-missed
returns-then-is_within-clause-missed c =
    let margin = c.margin-place.ensures in
    let same = margin.reached.0 in
    let m = margin.reached.1.1 c.if-place.false in
    λ h f none fed. subst (λ t. LeavesPlain t c.args.least c.args.from) same
    (c.plain_lines.ensures.missed (subst (λ t. is_text t ≡ true) (sym same) h)
    (subst (λ t. IsFirstLine t false c.args.from c.args.end) (sym same) f)
    (subst (λ t. IsBehindLine t c.margin-place.new.self c.args.end c.margin-place.result) (sym same)
    (line_behind c.args.self.now c.margin-place.new.self c.args.end c.margin-place.result
    (margin.found h c.if-place.false) same (margin.ended h c.if-place.false) m.1.1))
    none fed)

pub returns-clause-found : goal.returns-clause-found
returns-clause-found c =
    let text = c.args.self.now.text.now in
    let margin = c.margin-place.ensures in
    let same = margin.reached.0 in
    let m = margin.reached.1.1 c.if-place.false in
    let push = c.push_text.ensures in
    λ h f some.
    let h' = subst (λ t. is_text t ≡ true) (sym same) h in
    let behind = line_behind c.args.self.now c.margin-place.new.self c.args.end c.margin-place.result
    (margin.found h c.if-place.false) same (margin.ended h c.if-place.false) m.1.1 in
    plain_added c.args.self.now c.margin-place.new.self c.push_text.new.self c.args.least c.args.from c.args.end
    c.margin-place.result c.push_text.result (slice_range text c.args.from c.args.end) h
    (plain_first text c.margin-place.new.self c.args.least c.args.from c.args.end c.margin-place.result h f behind
    c.requires.part c.requires.here.1)
    (within_here text c.margin-place.new.self c.args.least c.margin-place.result c.is_within.result same
    (c.is_within.ensures.same h' behind.counted) c.if-is_within.false)
    margin.still same margin.start margin.names push.kept (push.there some)
    (subst (λ t. AddsScalar c.margin-place.new.self c.push_text.new.self
    (slice_range t c.args.from c.args.end) style.Plain
    c.args.end) same (push.added some))
