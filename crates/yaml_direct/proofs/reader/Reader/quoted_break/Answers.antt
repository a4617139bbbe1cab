-- A line feed more, and the end.
use Rattle.std.proofs.Common.{◌≡◌, ◌+◌, ◌≤◌, ◌∙◌, ap, arith, drop, length, refl, subst, sym, true}
use Rattle.yaml_direct.specs.Quoted.{IsLineBegin, passed_by}
use Rattle.yaml_direct.proofs.Growing.{grows_on, grows_same}
use Rattle.yaml_direct.proofs.QuoteLines.{breaks_end, breaks_more, breaks_none, breaks_parted}
use Rattle.yaml_direct.proofs.reader.Reader.quoted_break.Goals as goal
use Rattle.yaml_grammar.specs.Bytes.{at, is_text, parts}

pub feeds-init : goal.feeds-init
feeds-init c =
    let self = c.args.self.now in
    record {
      grows = grows_same self self refl;
      forward = omega arith;
      here = c.requires.here.0;
      within = c.requires.here.1;
      text = refl;
      start = refl;
      few = omega arith;
      tape = refl;
      names = refl;
      read = λ h dark. breaks_none self.text.now (passed_by c.args.passed) c.args.from dark;
    }

pub returns-then-place-clause-missed : goal.returns-then-place-clause-missed
returns-then-place-clause-missed c =
    let text = c.args.self.now.text.now in
    let i = c.feeds.invariant in
    let place = c.feeds.place in
    let feed : at text place ≡ 10 = ap (λ t. at t place) (sym i.text) ∙ (sym c.at.ensures.value ∙ c.feeds-test.true) in
    λ h dark none fed quote.
    let h' = subst (λ t. is_text t ≡ true) (sym i.text) h in
    breaks_parted text (passed_by c.args.passed) c.feeds.count c.args.from place (i.read h dark) feed
    (subst (λ t. parts (drop (place + 1) t) ≡ true) i.text
    (c.begin_quoted_line-place.ensures.missed h' c.if-place.true))
    quote

pub feeds-preserved : goal.feeds-preserved
feeds-preserved c =
    let text = c.args.self.now.text.now in
    let i = c.feeds.invariant in
    let place = c.feeds.place in
    let to = c.begin_quoted_line-place.result in
    let begin = c.begin_quoted_line-place.ensures in
    let b = begin.reached.1.1 c.if-place.false in
    let feed : at text place ≡ 10 = ap (λ t. at t place) (sym i.text) ∙ (sym c.at.ensures.value ∙ c.feeds-test.true) in
    record {
      grows = grows_on c.args.self.now c.feeds.self c.begin_quoted_line-place.new.self i.grows begin.reached.1.0;
      forward = omega (arith, i.forward, b.0);
      here = b.1.0;
      within = subst (λ t. to ≤ length t) (sym begin.reached.0) b.1.1;
      text = begin.reached.0 ∙ i.text;
      start = begin.start ∙ i.start;
      few = omega (arith, i.few, b.0);
      tape = begin.still ∙ i.tape;
      names = begin.names ∙ i.names;
      read = λ h dark.
          let h' = subst (λ t. is_text t ≡ true) (sym i.text) h in
          breaks_more text (passed_by c.args.passed) c.feeds.count c.args.from place to (i.read h dark) feed b.0
          (subst (λ t. IsLineBegin t (place + 1) to) i.text (begin.found h' c.if-place.false));
    }

pub returns-in-Ok-clause-found : goal.returns-in-Ok-clause-found
returns-in-Ok-clause-found c =
    let text = c.args.self.now.text.now in
    let i = c.feeds.invariant in
    let place = c.feeds.place in
    λ h dark some quote. breaks_end text c.args.passed c.feeds.count c.args.from place c.args.value.now.items
    c.push_break.new.out.items c.requires.few (i.read h dark)
    (λ feed. c.feeds-test.false (c.at.ensures.value ∙ (ap (λ t. at t place) i.text ∙ feed))) c.in-Ok.ensures quote
