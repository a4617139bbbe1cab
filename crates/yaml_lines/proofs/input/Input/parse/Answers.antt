-- Each turn reads one line.
use Rattle.std.proofs.Common.{arith, sym, ap, ◌∙◌}
use Rattle.yaml_lines.specs.InputText.{marked_events_of}
use Rattle.yaml_lines.proofs.InputLaws.{read_event, read_fault, bad_line, bad_after_fault, marked_events_of-push}
use Rattle.yaml_lines.proofs.input.Input.parse.Goals as goal

pub returns-then-is_some : goal.returns-then-is_some
returns-then-is_some c =
    bad_after_fault _ _ _ _ _ _ _ (sym c.is_some.ensures
    ∙ c.if-is_some.true) c.loop-rest.invariant.read c.first_line.ensures.lines

pub returns-in-Err-Bad : goal.returns-in-Err-Bad
returns-in-Err-Bad c =
    bad_line _ _ _ _ _ _ _ c.loop-rest.invariant.read c.first_line.ensures.lines
    (c.in-Err-Bad.ensures c.in-Err-Bad.field-0-is)

pub loop-rest-preserved-in_ok-push-in-Ok-Event : goal.loop-rest-preserved-in_ok-push-in-Ok-Event
loop-rest-preserved-in_ok-push-in-Ok-Event c =
    let taken = rw c.in-Ok-Event.field-0-is at c.in-Ok-Event.ensures in
    record {
      read = rw (ap marked_events_of c.in_ok-push-in-Ok-Event.ensures.items
          ∙ marked_events_of-push c.loop-rest.events.items (c.in-Ok-Event.event, c.in-Ok-Event.mark))
          (read_event _ _ _ _ _ _ _ _ (sym c.is_some.ensures
          ∙ c.if-is_some.false) c.loop-rest.invariant.read c.first_line.ensures.lines taken);
      few = omega (arith, c.first_line.ensures.shorter);
    }

pub loop-rest-preserved : goal.loop-rest-preserved
loop-rest-preserved c =
    let said = rw c.in-Ok-Fault.field-0-is at c.in-Ok-Fault.ensures in
    record {
      read = read_fault _ _ _ _ _ _ _ _ (sym c.is_some.ensures
          ∙ c.if-is_some.false) c.loop-rest.invariant.read c.first_line.ensures.lines said;
      few = omega (arith, c.first_line.ensures.shorter);
    }
