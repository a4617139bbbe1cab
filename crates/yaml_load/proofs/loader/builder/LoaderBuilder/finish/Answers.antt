-- The draft is closed behind the last event, or the end is wrong.
use Rattle.std.specs.Prelude.{◌≡◌}
use Rattle.yaml_load.proofs.Words.{rules, ◌∙◌, ap, is_some, length, subst, sym, length-map, Input, documents_of}
use Rattle.yaml_load.proofs.Words.{events_in, plain_marked, IsWellFormed, IsWrongAt, NotAStream, PlainEvent, Position}
use Rattle.yaml_load.proofs.Intakes.{all_documents, closed, ready_in}
use Rattle.yaml_load.proofs.LoadingLaws.{flags_same}
use Rattle.yaml_load.proofs.WrongPlaces.{wrong_end, wrong_not_well_formed}
use Rattle.yaml_load.proofs.loader.builder.LoaderBuilder.finish.Goals as goal

pub returns-then-is_after-is_some : goal.returns-then-is_after-is_some
returns-then-is_after-is_some c =
    let b = c.self.inside in
    let had = c.self.invariant (search rules) in
    let taken = plain_marked b.taken.items in
    let faulted = is_some c.args.fault in
    let done = sym c.is_after.ensures ∙ flags_same _ _ c.if-is_after-is_some.true ∙ c.is_some.ensures in
    let at_end = subst (IsWrongAt faulted (events_in taken)) (length-map taken (λ (e : PlainEvent × Position). e.0))
    (wrong_end faulted b.phase b.outer.items (events_in taken) had.ran done) in
    let wrong =
    subst (λ (v : Input). (c.new-then-is_after-is_some.result ≡ NotAStream (length v))
    × IsWrongAt faulted (events_in v) (length v)) c.self.view_is
    (c.new-then-is_after-is_some.ensures ∙ ap NotAStream had.counted, at_end) in
    record {
      accepted = tt;
      documents = tt;
      refused = λ other good. wrong_not_well_formed faulted (events_in c.args.self) (length c.args.self) wrong.1 good;
      wrong = λ other. wrong;
    }

pub close-requires : goal.close-requires
close-requires c = λ inside. ready_in (c.self.invariant (search rules)) (sym c.is_inside.ensures ∙ inside)

pub share-requires : goal.share-requires
share-requires c =
    let (between, accepted) =
    closed (c.self.invariant (search rules)) c.close.new.self c.is_inside.result _ _ c.args.fault c.is_inside.ensures
    c.is_after.ensures c.is_some.ensures c.if-is_after-is_some.false c.in_ok-close.ensures in
    record { cuts = between.cuts; documents = all_documents _ c.args.fault _ between.shown accepted }

pub returns : goal.returns
returns c =
    let (between, accepted) =
    closed (c.self.invariant (search rules)) c.close.new.self c.is_inside.result _ _ c.args.fault c.is_inside.ensures
    c.is_after.ensures c.is_some.ensures c.if-is_after-is_some.false c.in_ok-close.ensures in
    record {
      accepted = subst (λ (v : Input). IsWellFormed (is_some c.args.fault) (events_in v)) c.self.view_is accepted;
      documents = c.into_iter.ensures.rest ∙ c.in_ok-share.ensures ∙ between.shown
          ∙ ap (λ (v : Input). documents_of v c.args.fault) c.self.view_is;
      refused = tt;
      wrong = tt;
    }
