-- What is known of the events is known of one more.
use Rattle.std.proofs.Common.{ap, ◌≡◌, ◌≤◌, ◌∷◌, ◌++◌, ◌∙◌, [], Some, subst, sym, arith}
use Rattle.std.specs.Prelude.{IfSome, IsSomeAnd}
use Rattle.yaml_base.proofs.StreamMachineLaws.{run_append}
use Rattle.yaml_base.specs.MarkedEvents.{plain_events}
use Rattle.yaml_base.specs.PlainEvent.{event_of}
use Rattle.yaml_base.specs.Position.{Position}
use Rattle.yaml_base.specs.StreamMachine.{before_stream, between_documents, run}
use Rattle.yaml_base.specs.declared.event.Event.{Event}
use Rattle.yaml_parse.proofs.Streams.{goes_to, marks_to, placed_to, reached_to, said_to, shown_to}
use Rattle.yaml_parse.specs.PlainText.{scalar_in}
use Rattle.yaml_parse.specs.Shown.{StandsAt}
use Rattle.yaml_checked.proofs.GivenLaws.{each_untrue, least_to}
use Rattle.yaml_checked.proofs.given.Given.hand_out.Goals as goal

pub invariant_of-self-2 : goal.invariant_of-self-2
invariant_of-self-2 c =
    let old = c.args.self.now in
    let text = old.text.now in
    let before = old.events.items in
    let after = c.with-events.result.items in
    let here = c.in_ok-here.here in
    let mark = c.begun-mark.result in
    let x : Event × Position = (c.args.event, mark) in
    let grown : after ≡ before ++ x ∷ [] = c.with-events.ensures in
    let index : mark.index ≡ here.index = c.begun-mark.ensures.index in
    let at : mark.index ≡ c.args.index = omega (arith, index, c.in_ok-here.ensures.index) in
    let forward : old.here.index ≤ mark.index = omega (arith, index, c.in_ok-here.ensures.forward) in
    let shown = subst (λ i. IfSome (scalar_in (event_of c.args.event)) (λ s. IsSomeAnd s.source (StandsAt text i)))
    (sym at)
    c.requires.shown in
    let part = c.go.new.self in
    let ran : run (Some before_stream) (plain_events after) ≡ Some part =
    goes_to before after x old.part part grown (old.ran c.requires.whole) (c.in_ok-go.ensures.on c.if-not-branch.false)
    in
    record {
      allowed = old.allowed;
      begins = λ none. absurd (let both = sym ran ∙ none in cc);
      ran = λ _. ran;
      shown = shown_to text before after x grown old.shown shown;
      plain = said_to before after x grown old.plain c.requires.plain;
      marks = marks_to text before after x old.here.index grown old.marks old.last forward
          (omega (arith, at, c.requires.within));
      last = reached_to before after x old.here.index here.index grown old.last
          forward (omega (arith, index));
      least = λ n all.
          let low : mark.index ≤ n = least_to before after x n grown all in
          omega (arith, low, index);
      between = (
        (λ e. ran ∙ ap Some e),
        (λ e. let same : Some part ≡ Some between_documents = sym ran ∙ e in cc),
      );
      places = placed_to text before after x grown old.places c.begun-mark.ensures.place;
      place = c.in_ok-here.ensures.place;
      within = omega (arith, c.in_ok-here.ensures.index, c.requires.within);
    }

pub returns-in_err-here-clause-untrue : goal.returns-in_err-here-clause-untrue
returns-in_err-here-clause-untrue c = each_untrue c.from_residual.result (λ r other all next.
    let low : c.args.self.now.here.index ≤ c.args.index = c.args.self.now.least c.args.index all in
    let behind = c.in_err-here.ensures.untrue in
    absurd (omega (arith, low, behind)))

pub returns-then-not-branch-clause-untrue : goal.returns-then-not-branch-clause-untrue
returns-then-not-branch-clause-untrue c = λ other all next.
    let old = c.args.self.now in
    let before = plain_events old.events.items in
    let off = c.in_ok-go.ensures.off c.if-not-branch.true in
    next (run_append before (event_of c.args.event ∷ []) (Some before_stream)
    ∙ ap (λ o. run o (event_of c.args.event ∷ [])) (old.ran c.requires.whole) ∙ off)
