-- With each document a line more is told, and at last what was told is told of all.
use Rattle.std.proofs.Common.{[], ◌∷◌, ◌++◌, string_bytes, subst, sym, ap, ◌∙◌}
use Rattle.yaml_run.proofs.TurnLaws.{Turning, turning-ends, turning-next}
use Rattle.yaml_run.specs.Turns.{in_all}
use Rattle.yaml_run.proofs.turns.read_in_turn.Goals as goal

pub loop-document-preserved : goal.loop-document-preserved
loop-document-preserved c =
    let text = c.in_ok-push_line.ensures
    ∙ ap (λ l. string_bytes c.loop-document.text ++ (l ++ 10 ∷ [])) c.as_str.ensures.value in
    subst (λ e. Turning c.args.audience c.args.limits c.args.schema.now c.args.id.0 c.args.stream c.next.new.self e
    (string_bytes c.push_line.new.out)) (sym c.in_all-ended.ensures)
    (subst (Turning c.args.audience c.args.limits c.args.schema.now c.args.id.0 c.args.stream c.next.new.self
    (in_all c.loop-document.ended c.in_ok-told.told.ended)) (sym text)
    (turning-next c.args.audience c.args.limits c.args.schema.now c.args.id.0 c.args.stream c.loop-document.documents
    c.in-Some.document c.next.new.self c.loop-document.ended c.in_ok-told.told.ended
    (string_bytes c.loop-document.text) (string_bytes c.in_ok-told.told.text) c.in-Some.ensures.steps.yields
    c.in_ok-told.ensures c.loop-document.invariant))

pub returns : goal.returns
returns c =
    turning-ends c.args.audience c.args.limits c.args.schema.now c.args.id.0 c.args.stream c.loop-document.documents
    c.loop-document.ended (string_bytes c.loop-document.text) c.in_default.ensures.steps.yields.0
    c.loop-document.invariant
