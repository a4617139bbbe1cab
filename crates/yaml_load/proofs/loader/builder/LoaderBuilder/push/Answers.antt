-- The draft goes on with the event, or the event is wrong where the machine stops.
use Rattle.std.specs.Prelude.{◌≡◌, ◌+◌, ◌∷◌, ◌++◌}
use Rattle.yaml_load.proofs.Words.{rules, ◌∙◌, [], Some, ap, length, subst, sym, map-append, event_of, Position, Event}
use Rattle.yaml_load.proofs.Words.{Input, events_in, plain_marked, phase_state, IsWrongNext, HasTaken, NotAStream}
use Rattle.yaml_load.proofs.Intakes.{ready_in, taken_on}
use Rattle.yaml_load.proofs.WrongPlaces.{wrong_next}
use Rattle.yaml_load.proofs.loader.builder.LoaderBuilder.push.Goals as goal

pub take-requires-clause-ready : goal.take-requires-clause-ready
take-requires-clause-ready c = ready_in (c.self.invariant (search rules))

pub returns-in-None-clause-wrong : goal.returns-in-None-clause-wrong
returns-in-None-clause-wrong c = λ _.
    let b = c.self.inside in
    let had = c.self.invariant (search rules) in
    let e = event_of c.args.event in
    subst (λ (v : Input). (c.new-in-None.result ≡ NotAStream (length v)) × IsWrongNext (events_in v) e) c.self.view_is (
      c.new-in-None.ensures ∙ ap NotAStream had.counted,
      wrong_next _ e (phase_state b.phase b.outer.items) had.ran (rw c.in-None.is at c.in_ok-after.ensures.0),
    )

pub invariant_of-self-2 : goal.invariant_of-self-2
invariant_of-self-2 c = λ _.
    let b = c.self.inside in
    let x : Event × Position = (c.args.event, c.args.mark) in
    let more : plain_marked c.with-taken.result.items ≡ plain_marked b.taken.items
    ++ (event_of c.args.event, c.args.mark) ∷ [] =
    ap plain_marked c.with-taken.ensures ∙ map-append _ b.taken.items (x ∷ []) in
    let outer = c.take.new.outer.items in
    let after = c.in-Some.after in
    subst (λ (v : Input). HasTaken after outer (Some c.args.mark) (b.count + 1) v c.take.new.self) (sym more)
    (taken_on (c.self.invariant (search rules)) after outer (event_of c.args.event) c.args.mark c.take.new.self
    (rw c.in-Some.is at c.in_ok-after.ensures.0) (rw c.in-Some.is at c.in_ok-after.ensures.1))
