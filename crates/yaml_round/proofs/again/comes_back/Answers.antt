-- A value that fits is written, and read as an equal one.
use Rattle.std.proofs.Common.{◌≡◌, map, true, false, Ok, Err, ap, refl, sym, ◌∙◌, subst}
use Rattle.yaml_base.specs.EmitEvents.{emit_of}
use Rattle.yaml_base.specs.MarkedEvents.{events_in, plain_marked}
use Rattle.yaml_base.specs.Renders.{Renders}
use Rattle.yaml_base.specs.declared.emitter.EmitEvent.{EmitEvent}
use Rattle.std.specs.Prelude.{List}
use Rattle.yaml_round.specs.Compared.{is_read, not_written}
use Rattle.yaml_round.proofs.TypedReturn.{only_by_message, equal_again}
use Rattle.yaml_round.proofs.again.comes_back.Goals as goal

pub returns-in-Err-clause-equal : goal.returns-in-Err-clause-equal
returns-in-Err-clause-equal g c = λ few fits m.
    only_by_message c.in-Err.fault fits.written.0 few fits.written.1 (c.in-Err.ensures.written m) refl

pub returns-in-Err-render-clause-equal : goal.returns-in-Err-render-clause-equal
returns-in-Err-render-clause-equal g c = λ few fits m.
    let bad : true ≡ false = sym c.in-Err-render.ensures.refused ∙ m in absurd cc

pub returns-in-Ok-from_events_limited-clause-equal : goal.returns-in-Ok-from_events_limited-clause-equal
returns-in-Ok-from_events_limited-clause-equal g c = λ few fits.
    equal_again g.T.PartialEq.eq (g.T.Serialize.unwritten c.args.value.now) c.args.value.now
    c.in-Ok-from_events_limited.found _ c.eq.ensures
    (c.a_written_value_reads_back.ensures c.args.limits c.args.value.now (map emit_of c.in-Ok.written.items)
    (plain_marked c.in-Ok-render.input.items) (Ok c.in-Ok-from_events_limited.found) c.in-Ok.ensures.table
    c.in-Ok.ensures.kept c.in-Ok.ensures.held fits c.in-Ok.ensures.written
    (subst (λ (l : List EmitEvent). Renders (map emit_of l) (events_in (plain_marked c.in-Ok-render.input.items)))
    c.deref.ensures.value c.in-Ok-render.ensures.rendered) c.in-Ok-from_events_limited.ensures.given)

pub returns-clause-equal : goal.returns-clause-equal
returns-clause-equal g c = λ few fits m.
    let r = c.a_written_value_reads_back.ensures c.args.limits c.args.value.now (map emit_of c.in-Ok.written.items)
    (plain_marked c.in-Ok-render.input.items) (Err c.in-Err-from_events_limited.fault) c.in-Ok.ensures.table
    c.in-Ok.ensures.kept c.in-Ok.ensures.held fits c.in-Ok.ensures.written
    (subst (λ (l : List EmitEvent). Renders (map emit_of l) (events_in (plain_marked c.in-Ok-render.input.items)))
    c.deref.ensures.value c.in-Ok-render.ensures.rendered) (c.in-Err-from_events_limited.ensures.given m) in
    let bad = r.1 in absurd cc

pub returns-in-Err-clause-compared : goal.returns-in-Err-clause-compared
returns-in-Err-clause-compared g c = λ m. not_written (c.in-Err.ensures.written m)

pub returns-in-Err-render-clause-compared : goal.returns-in-Err-render-clause-compared
returns-in-Err-render-clause-compared g c = λ m.
    let bad : true ≡ false = sym c.in-Err-render.ensures.refused ∙ m in absurd cc

pub returns-in-Ok-from_events_limited-clause-compared : goal.returns-in-Ok-from_events_limited-clause-compared
returns-in-Ok-from_events_limited-clause-compared g c =
    is_read (map emit_of c.in-Ok.written.items) (plain_marked c.in-Ok-render.input.items) c.in-Ok.ensures.written
    (subst (λ (l : List EmitEvent). Renders (map emit_of l) (events_in (plain_marked c.in-Ok-render.input.items)))
    c.deref.ensures.value c.in-Ok-render.ensures.rendered)
    (Ok c.in-Ok-from_events_limited.found, c.in-Ok-from_events_limited.ensures.given, ap Ok c.eq.ensures)

pub returns-clause-compared : goal.returns-clause-compared
returns-clause-compared g c = λ m.
    is_read (map emit_of c.in-Ok.written.items) (plain_marked c.in-Ok-render.input.items) c.in-Ok.ensures.written
    (subst (λ (l : List EmitEvent). Renders (map emit_of l) (events_in (plain_marked c.in-Ok-render.input.items)))
    c.deref.ensures.value c.in-Ok-render.ensures.rendered)
    (Err c.in-Err-from_events_limited.fault, c.in-Err-from_events_limited.ensures.given m, refl)
