-- A line feed, and one behind a backslash.
use Rattle.std.proofs.Common.{◌≡◌, ◌∙◌, None, drop, false, subst, sym, true}
use Rattle.yaml_direct.specs.Quoted.{UnquotesBehind, passed_by, quoted_rest}
use Rattle.yaml_direct.proofs.QuoteBreaks.{escaped_parted, escaped_unquotes, escaped_unread}
use Rattle.yaml_direct.proofs.QuoteLines.{feed_parted, feed_unquotes, feed_unread}
use Rattle.yaml_direct.proofs.reader.Reader.quoted_other.Goals as goal
use Rattle.yaml_grammar.specs.Bytes.{at, is_blank, is_text}
use Rattle.yaml_grammar.specs.Folding.{Rest, nothing_passed}

pub returns-then-place-clause-missed : goal.returns-then-place-clause-missed
returns-then-place-clause-missed c =
    λ h ends shut none fed. feed_parted c.args.self.now.text.now c.args.quote nothing_passed c.args.stop
    (sym c.at.ensures.value ∙ c.if-at-eq10.true) (c.begin_quoted_line-place.ensures.missed h c.if-place.true)

pub returns-then-at-eq10-clause-found : goal.returns-then-at-eq10-clause-found
returns-then-at-eq10-clause-found c =
    let text = c.args.self.now.text.now in
    let begin = c.begin_quoted_line-place.ensures in
    let line = c.begin_quoted_line-place.result in
    let same = begin.reached.0 in
    λ h ends some.
    let at_line = begin.found h c.if-place.false in
    let u = c.quoted_break.ensures.found (subst (λ t. is_text t ≡ true) (sym same) h)
    (subst (λ t. is_blank (at t line) ≡ false) (sym same) at_line.dark) some c.args.quote in
    feed_unquotes text c.args.quote c.args.stop line c.quoted_break.result c.args.value.now.items
    c.quoted_break.new.value.items (sym c.at.ensures.value ∙ c.if-at-eq10.true) (begin.reached.1.1 c.if-place.false).0
    at_line (c.quoted_break.ensures.reached.1.1 some).0
    (subst (λ t. UnquotesBehind t c.args.quote (passed_by 1) line c.quoted_break.result c.args.value.now.items
    c.quoted_break.new.value.items) same u)

pub returns-then-at-eq10-clause-missed : goal.returns-then-at-eq10-clause-missed
returns-then-at-eq10-clause-missed c =
    let text = c.args.self.now.text.now in
    let begin = c.begin_quoted_line-place.ensures in
    let line = c.begin_quoted_line-place.result in
    let same = begin.reached.0 in
    λ h ends shut none fed.
    let at_line = begin.found h c.if-place.false in
    let unread = c.quoted_break.ensures.missed (subst (λ t. is_text t ≡ true) (sym same) h)
    (subst (λ t. is_blank (at t line) ≡ false) (sym same) at_line.dark) none fed c.args.quote in
    feed_unread text c.args.quote c.args.stop line (sym c.at.ensures.value ∙ c.if-at-eq10.true)
    (begin.reached.1.1 c.if-place.false).0 at_line
    (subst (λ t. ◌≡◌ {A = Rest} (quoted_rest c.args.quote false (passed_by 1) (drop line t)) None) same unread)

pub returns-then-place-2-clause-missed : goal.returns-then-place-2-clause-missed
returns-then-place-2-clause-missed c =
    λ h ends shut none fed. escaped_parted c.args.self.now.text.now c.args.quote c.args.stop c.feed_at-feed.result h
    ends
    (sym c.at-2.ensures.value ∙ c.if-at-ne92.false) c.feed_at-feed.ensures.here
    (sym c.at-3.ensures.value ∙ c.if-at-ne10.false) (c.begin_quoted_line-place-2.ensures.missed h c.if-place-2.true)

pub returns-clause-found : goal.returns-clause-found
returns-clause-found c =
    let text = c.args.self.now.text.now in
    let begin = c.begin_quoted_line-place-2.ensures in
    let line = c.begin_quoted_line-place-2.result in
    let same = begin.reached.0 in
    λ h ends some.
    let at_line = begin.found h c.if-place-2.false in
    let u = c.quoted_break-2.ensures.found (subst (λ t. is_text t ≡ true) (sym same) h)
    (subst (λ t. is_blank (at t line) ≡ false) (sym same) at_line.dark) some c.args.quote in
    escaped_unquotes text c.args.quote c.args.stop c.feed_at-feed.result line c.quoted_break-2.result
    c.args.value.now.items c.quoted_break-2.new.value.items h ends (sym c.at-2.ensures.value ∙ c.if-at-ne92.false)
    c.feed_at-feed.ensures.here (sym c.at-3.ensures.value ∙ c.if-at-ne10.false)
    (begin.reached.1.1 c.if-place-2.false).0 at_line (c.quoted_break-2.ensures.reached.1.1 some).0
    (subst (λ t. UnquotesBehind t c.args.quote (passed_by 0) line c.quoted_break-2.result c.args.value.now.items
    c.quoted_break-2.new.value.items) same u)

pub returns-clause-missed : goal.returns-clause-missed
returns-clause-missed c =
    let text = c.args.self.now.text.now in
    let begin = c.begin_quoted_line-place-2.ensures in
    let line = c.begin_quoted_line-place-2.result in
    let same = begin.reached.0 in
    λ h ends shut none fed.
    let at_line = begin.found h c.if-place-2.false in
    let unread = c.quoted_break-2.ensures.missed (subst (λ t. is_text t ≡ true) (sym same) h)
    (subst (λ t. is_blank (at t line) ≡ false) (sym same) at_line.dark) none fed c.args.quote in
    escaped_unread text c.args.quote c.args.stop c.feed_at-feed.result line h ends
    (sym c.at-2.ensures.value ∙ c.if-at-ne92.false) c.feed_at-feed.ensures.here
    (sym c.at-3.ensures.value ∙ c.if-at-ne10.false) (begin.reached.1.1 c.if-place-2.false).0 at_line
    (subst (λ t. ◌≡◌ {A = Rest} (quoted_rest c.args.quote false (passed_by 0) (drop line t)) None) same unread)
