-- The events that were handed out are a whole stream, and the builder took all of them.
use Rattle.std.proofs.Common.{rules, ◌≡◌, ◌∙◌, None, ap, false, refl, subst, sym, true}
use Rattle.yaml_base.specs.Answer.{is_memory}
use Rattle.yaml_base.specs.MarkedEvents.{events_in, plain_events, plain_marked}
use Rattle.yaml_base.specs.Stream.{IsWellFormed}
use Rattle.yaml_documents.proofs.TextLaws.{not_false, parsed_so, read_whole, same_events}
use Rattle.yaml_documents.proofs.direct.load_events.Goals as goal
use Rattle.yaml_grammar.specs.Documents.{Stands}
use Rattle.yaml_grammar.specs.Nodes.{events_of}
use Rattle.yaml_reading.specs.Refused.{NothingStands}
use Rattle.yaml_read.specs.Documents.{documents_of}

pub returns-then-not-branch-clause-left : goal.returns-then-not-branch-clause-left
returns-then-not-branch-clause-left c = λ says.
    subst NothingStands c.of_tape-events.ensures.text
    (c.in_ok-hand_over.ensures.left (c.of_tape-events.ensures.of_text says) c.if-not-branch.true)

pub returns-in-Ok-clause-documents : goal.returns-in-Ok-clause-documents
returns-in-Ok-clause-documents c =
    let given = c.hand_over.new.events.given in
    let builder = c.hand_over.new.builder in
    let same : c.hand_over.new.events.text ≡ c.args.tape.text.now = Prim.search rules in
    let agrees : builder ≡ plain_marked given = Prim.search rules in
    let known = c.has_events.ensures in
    let whole : IsWellFormed false (plain_events given) =
    subst (IsWellFormed false) (sym (same_events given ∙ ap events_in (sym agrees))) c.in-Ok.ensures.accepted in
    record {
      events = given;
      fault = None;
      read = read_whole same c.requires whole known.sources known.plain known.marks known.places;
      holds = c.from.ensures ∙ c.in-Ok.ensures.documents ∙ ap (λ es. documents_of es None) agrees;
    }

pub returns-in-Ok-clause-own : goal.returns-in-Ok-clause-own
returns-in-Ok-clause-own c = λ says.
    let given = c.hand_over.new.events.given in
    let builder = c.hand_over.new.builder in
    let same : c.hand_over.new.events.text ≡ c.args.tape.text.now = Prim.search rules in
    let agrees : builder ≡ plain_marked given = Prim.search rules in
    let known = c.has_events.ensures in
    let whole : IsWellFormed false (plain_events given) =
    subst (IsWellFormed false) (sym (same_events given ∙ ap events_in (sym agrees))) c.in-Ok.ensures.accepted in
    let own = c.in_ok-hand_over.ensures.own (c.of_tape-events.ensures.of_text says) c.if-not-branch.false in
    record {
      events = given;
      fault = None;
      parsed =
          parsed_so (read_whole same c.requires whole known.sources known.plain known.marks known.places)
          (λ ds stand short. (
            refl,
            subst (λ t. plain_marked given ≡ events_of t ds) same (own ds (subst (λ t. Stands t ds) (sym same) stand)),
          ));
      holds = c.from.ensures ∙ c.in-Ok.ensures.documents ∙ ap (λ es. documents_of es None) agrees;
    }

pub returns-clause-memory : goal.returns-clause-memory
returns-clause-memory c =
    let given = c.hand_over.new.events.given in
    let builder = c.hand_over.new.builder in
    let agrees : builder ≡ plain_marked given = Prim.search rules in
    not_false (is_memory c.in-Err.fault) (λ other.
    c.in-Err.ensures.refused other
    (subst (IsWellFormed false) (same_events given ∙ ap events_in (sym agrees))
    (c.in_ok-hand_over.ensures.stream c.if-not-branch.false)))
