-- With each document more is shown, and at last what was shown is shown of all.
use Rattle.std.proofs.Common.{◌++◌, string_bytes, subst, sym}
use Rattle.yaml_run.proofs.ShownLaws.{Showing, showing-ends, showing-next}
use Rattle.yaml_run.proofs.shown.show_in_turn.Goals as goal

pub loop-document-preserved : goal.loop-document-preserved
loop-document-preserved c =
    subst (λ t. Showing c.args.limits c.args.schema.now c.args.id.0 c.args.stream c.next.new.self t
    c.push_shown.new.all.faults.items) (sym c.in_ok-push_shown.ensures.text)
    (subst (Showing c.args.limits c.args.schema.now c.args.id.0 c.args.stream c.next.new.self
    (string_bytes c.loop-document.all.text ++ string_bytes c.in_ok-one.one.text))
    (sym c.in_ok-push_shown.ensures.faults)
    (showing-next c.args.limits c.args.schema.now c.args.id.0 c.args.stream c.loop-document.documents
    c.in-Some.document c.next.new.self (string_bytes c.loop-document.all.text) (string_bytes c.in_ok-one.one.text)
    c.loop-document.all.faults.items c.in_ok-one.one.faults.items c.in-Some.ensures.steps.yields
    c.in_ok-one.ensures c.loop-document.invariant))

pub returns : goal.returns
returns c =
    showing-ends c.args.limits c.args.schema.now c.args.id.0 c.args.stream c.loop-document.documents
    (string_bytes c.loop-document.all.text) c.loop-document.all.faults.items
    c.in_default.ensures.steps.yields.0 c.loop-document.invariant
