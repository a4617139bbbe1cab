-- The list goes wrong where the builder refuses an event, or the end; else the builder took all of it.
use Rattle.std.specs.Prelude.{◌≡◌, ◌++◌}
use Rattle.yaml_load.proofs.Words.{◌∙◌, Err, IfErr, Ok, Result, ap, append-nil, arith, is_some, length, sym}
use Rattle.yaml_load.proofs.Words.{into_iter_items, events_in, plain_events, plain_marked, IsWrongAt, nil_from_length}
use Rattle.yaml_load.proofs.Words.{ℕ, NotAStream, false}
use Rattle.yaml_base.specs.Answer.{is_memory}
use Rattle.yaml_load.proofs.WrongPlaces.{events_of_marked, wrong_amid, wrong_not_well_formed}
use Rattle.yaml_load.proofs.loader.Loader.new.Goals as goal

pub returns-in-Err-clause-wrong : goal.returns-in-Err-clause-wrong
returns-in-Err-clause-wrong c = λ other.
    let told = c.in-Err.ensures.wrong other in (
      length c.events.builder,
      told.0,
      wrong_amid (is_some c.args.fault) c.args.events.items c.events.builder (into_iter_items c.events.rest)
          (into_iter_items c.next.new.self) (c.in-Some.event, c.in-Some.mark) c.events.invariant.all
          c.in-Some.ensures.items told.1,
    )

pub returns-in-Err-clause-refused : goal.returns-in-Err-clause-refused
returns-in-Err-clause-refused c = λ other good.
    let wrong = returns-in-Err-clause-wrong c other in
    wrong_not_well_formed (is_some c.args.fault) (plain_events c.args.events.items) wrong.0 wrong.2 good

-- what is known of a fault is known of it in weaker words
weaker : {T E : Type 0} (P Q : E → Type 0) (r : Result T E) → ((e : E) → P e → Q e) → IfErr r P → IfErr r Q
weaker P Q (Ok x) goes h = tt
weaker P Q (Err e) goes h = goes e h

pub returns : goal.returns
returns c =
    let given = plain_events c.args.events.items in
    let empty = c.in_default.ensures.cases.0 in
    let none = nil_from_length (into_iter_items c.events.rest) (omega (arith, c.events.rest.rest.ok, empty)) in
    let all : c.events.builder ≡ plain_marked c.args.events.items =
    sym (c.events.invariant.all ∙ ap (λ (l : _). c.events.builder ++ plain_marked l) none ∙ append-nil _) in
    let plain : events_in c.events.builder ≡ given = ap events_in all ∙ events_of_marked c.args.events.items in
    let same = c.events.invariant.same in
    let wrong =
    weaker _ (λ cause. is_memory cause ≡ false → (place : ℕ) × (cause ≡ NotAStream place)
    × IsWrongAt (is_some c.args.fault) given place) c.finish.result (λ cause told other.
    (length c.events.builder, (told other).0, rw (plain, same) at (told other).1)) c.finish.ensures.wrong in
    record {
      accepted = rw (plain, same) at c.finish.ensures.accepted;
      documents = rw (all, same) at c.finish.ensures.documents;
      refused = weaker _ _ c.finish.result (λ cause told other good.
          wrong_not_well_formed (is_some c.args.fault) given (told other).0 (told other).2 good) wrong;
      wrong = wrong;
    }
