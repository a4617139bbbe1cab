-- The events of documents that stand in the text are handed out, and none is refused.
use Rattle.std.proofs.Common.{◌≡◌, ◌≢◌, ◌∙◌, ◌++◌, ◌∷◌, [], None, Some, ap, subst, sym}
use Rattle.std.proofs.lemmas.Result.{err_from_is_err_and}
use Rattle.yaml_base.specs.MarkedEvents.{plain_events, plain_marked}
use Rattle.yaml_base.specs.PlainEvent.{PlainEvent, event_of}
use Rattle.yaml_base.specs.StreamMachine.{before_stream, run}
use Rattle.yaml_parse.specs.Places.{IsInPlace}
use Rattle.yaml_tape.specs.OnTape.{position_at}
use Rattle.yaml_checked.proofs.GivenLaws.{entry_may_come, handed_out, whole_stream}
use Rattle.yaml_checked.proofs.NameLaws.{on_as_far}
use Rattle.yaml_checked.proofs.events.go_on.Goals as goal
use Rattle.yaml_checked.specs.inner.OnWay.{Comes}

pub returns-in_err-entry-clause-left : goal.returns-in_err-entry-clause-left
returns-in_err-entry-clause-left c =
    let p = err_from_is_err_and c.from_residual.result c.from_residual.ensures.1 in
    rw (p.1, p.2) (λ other ds way.
    c.in_err-entry.ensures.left other ds (plain_marked c.args.given.now.events.items) way)

pub returns-then-is_stream-clause-way : goal.returns-then-is_stream-clause-way
returns-then-is_stream-clause-way c = λ ds way.
    (subst (Comes ds (plain_marked c.args.given.now.events.items) c.next.new.self) c.in_default.is
    (c.in_ok-entry.ensures.way ds (plain_marked c.args.given.now.events.items) way)).0

pub returns-then-is_stream-clause-all : goal.returns-then-is_stream-clause-all
returns-then-is_stream-clause-all c = λ ds way.
    (subst (Comes ds (plain_marked c.args.given.now.events.items) c.next.new.self) c.in_default.is
    (c.in_ok-entry.ensures.way ds (plain_marked c.args.given.now.events.items) way)).1

pub returns-else-is_stream-clause-left : goal.returns-else-is_stream-clause-left
returns-else-is_stream-clause-left c = λ other ds way.
    let given = c.args.given.now.events.items in
    let comes = subst (Comes ds (plain_marked given) c.next.new.self) c.in_default.is
    (c.in_ok-entry.ensures.way ds (plain_marked given) way) in
    c.is_stream.ensures.only c.if-is_stream.false
    (whole_stream c.next.new.self.tape.text.now ds given comes.1)

pub returns-in_err-event-clause-left : goal.returns-in_err-event-clause-left
returns-in_err-event-clause-left c =
    let p = err_from_is_err_and c.from_residual-in_err-event.result c.from_residual-in_err-event.ensures.1 in
    rw (p.1, p.2) (λ other ds way.
    let given = c.args.given.now.events.items in
    let comes = subst (Comes ds (plain_marked given) c.next.new.self) c.in-Some.is
    (c.in_ok-entry.ensures.way ds (plain_marked given) way) in
    c.in_err-event.ensures.untrue other comes.stand.characters
    (entry_may_come ds given c.next.new.self c.in-Some.entry comes).says)

pub returns-in_err-hand_out-clause-left : goal.returns-in_err-hand_out-clause-left
returns-in_err-hand_out-clause-left c =
    let p = err_from_is_err_and c.from_residual-in_err-hand_out.result c.from_residual-in_err-hand_out.ensures.1 in
    rw (p.1, p.2) (λ other ds way.
    let given = c.args.given.now.events.items in
    let comes = subst (Comes ds (plain_marked given) c.next.new.self) c.in-Some.is
    (c.in_ok-entry.ensures.way ds (plain_marked given) way) in
    let may = entry_may_come ds given c.next.new.self c.in-Some.entry comes in
    c.in_err-hand_out.ensures.untrue other may.last
    (subst (λ (e : PlainEvent). run (Some before_stream) (plain_events given ++ e ∷ []) ≢ None)
    (sym c.in_ok-event.ensures.event) may.next))

pub returns-clause-way : goal.returns-clause-way
returns-clause-way c = λ ds way.
    let given = c.args.given.now.events.items in
    let r = c.next.new.self in
    let e = c.in-Some.entry in
    let comes = subst (Comes ds (plain_marked given) r) c.in-Some.is
    (c.in_ok-entry.ensures.way ds (plain_marked given) way) in
    let text : c.args.given.now.text.now ≡ r.tape.text.now = sym (c.next.ensures.text ∙ c.requires.same) in
    on_as_far c.in_ok-event.ensures.stays
    (handed_out ds given c.hand_out.new.self.events.items r e c.in_ok-hand_out.field-0 comes
    c.in_ok-hand_out.ensures.events (ap event_of c.in_ok-hand_out.ensures.event ∙ c.in_ok-event.ensures.event)
    (subst (λ t. IsInPlace t (position_at t e.index e.late)
    → c.in_ok-hand_out.field-0.1 ≡ position_at t e.index e.late) text c.in_ok-hand_out.ensures.mark))
