-- The events that were handed out are a stream, or with the fault a beginning of one, and the builder took all of them.
use Rattle.std.proofs.Common.{rules, ◌≡◌, ◌∙◌, ◌∷◌, ◌++◌, [], ap, is_some, subst, sym, true}
use Rattle.yaml_base.specs.Answer.{is_memory}
use Rattle.yaml_base.specs.MarkedEvents.{events_in, plain_events, plain_marked}
use Rattle.yaml_base.specs.Stream.{IsWellFormed}
use Rattle.yaml_documents.proofs.TextLaws.{never_wrong, not_false, parsed_as_read, read_of, same_events}
use Rattle.yaml_documents.proofs.whole.load_by_tokens.Goals as goal
use Rattle.yaml_read.specs.Documents.{documents_of}

pub returns-in-Err-clause-memory : goal.returns-in-Err-clause-memory
returns-in-Err-clause-memory c =
    not_false (is_memory c.in-Err.fault) (λ other.
    never_wrong c.events.builder c.events.events.given c.take_next-event.new.self.given
    (c.take_next-event.result.0, c.take_next-event.result.1)
    c.events.invariant.1
    (c.take_next-event.ensures.given ∙ ap (λ (es : _). es ++ c.take_next-event.result ∷ []) c.has_next.ensures.given)
    c.has_events.ensures.begins (c.in-Err.ensures.wrong other).1)

pub returns-in-Ok-clause-documents : goal.returns-in-Ok-clause-documents
returns-in-Ok-clause-documents c =
    let all : c.has_next.new.self.given ≡ c.events.events.given = Prim.search rules in
    let over : c.has_next.new.self.over ≡ true = Prim.search rules in
    let given = c.has_next.new.self.given in
    let fault = c.in_ok-fault.field-0.fault in
    let known = c.has_events-2.ensures in
    let ended = c.in_ok-fault.ensures in
    record {
      events = given;
      fault = fault;
      read =
          read_of (c.in_ok-has_next.ensures.text ∙ c.events.invariant.0) (ended.taken over) known.sources known.plain
          known.marks known.places ended.allowed ended.none ended.refused;
      holds = c.from.ensures ∙ c.in-Ok.ensures.documents
          ∙ ap (λ es. documents_of es fault) (c.events.invariant.1 ∙ ap plain_marked (sym all));
    }

pub returns-in-Ok-clause-left : goal.returns-in-Ok-clause-left
returns-in-Ok-clause-left c = λ left.
    parsed_as_read c.args.text.now (λ events fault. c.from.result ≡ documents_of events fault) left
    (returns-in-Ok-clause-documents c)

pub returns-in-Err-finish-clause-memory : goal.returns-in-Err-finish-clause-memory
returns-in-Err-finish-clause-memory c =
    let all : c.has_next.new.self.given ≡ c.events.events.given = Prim.search rules in
    let over : c.has_next.new.self.over ≡ true = Prim.search rules in
    let faulted = is_some c.in_ok-fault.field-0.fault in
    let same : plain_events c.has_next.new.self.given ≡ events_in c.events.builder =
    ap plain_events all ∙ same_events c.events.events.given ∙ ap events_in (sym c.events.invariant.1) in
    not_false (is_memory c.in-Err-finish.fault) (λ other.
    c.in-Err-finish.ensures.refused other (subst (IsWellFormed faulted) same (c.in_ok-fault.ensures.taken over)))
