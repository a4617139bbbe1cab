-- The end of the events ends the open document, or adds the one that the fault, or an empty stream, leaves.
use Rattle.yaml_load.proofs.Words.{arith, ◌∙◌, sym, eqb-true, nil_from_length}
use Rattle.yaml_load.proofs.LoadingLaws.{all_open, all_void, fault_closes, closed_none}
use Rattle.yaml_load.proofs.loader.draft.Draft.close.Goals as goal

pub returns-in_ok-finish-in-Some : goal.returns-in_ok-finish-in-Some
returns-in_ok-finish-in-Some c = λ all end known way.
    fault_closes all c.args.self.now _ c.if-inside.true c.in-Some.is
    (λ h. all_open c.in-Some.fault all _ _ h
    (c.in_ok-finish-in-Some.ensures h.events h.numbers h.seen h.draft h.cuts)) way

pub returns-in_ok-add_void-in-None : goal.returns-in_ok-add_void-in-None
returns-in_ok-add_void-in-None c = λ all end known way.
    let old = c.args.self.now in
    let empty = nil_from_length old.cuts.items
    (omega (arith, old.cuts.ok, eqb-true _ _ (sym c.is_empty.ensures ∙ c.if-is_empty.true))) in
    fault_closes all old _ (closed_none c.args.inside c.args.fault c.in-None.is known) c.in-None.is
    (λ h. all_void all old h empty _ c.in-Some-end.mark (sym c.in-Some-end.is ∙ end)
    (c.in_ok-add_void-in-None.ensures h.documents h.between)) way
