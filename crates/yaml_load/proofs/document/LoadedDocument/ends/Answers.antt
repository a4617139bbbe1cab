-- The numbers of the range are those of its events.
use Rattle.yaml_load.proofs.Words.{sym, ap, ◌∙◌, map, slice_range, Position, ends_of, PlainDocEvent, PlainDocument}
use Rattle.yaml_load.proofs.Gatherings.{plain_doc_events-marked}
use Rattle.yaml_load.proofs.document.LoadedDocument.ends.Goals as goal

pub returns : goal.returns
returns c =
    let d = c.self.inside in
    ap (λ es. slice_range es d.from d.to) (c.deref-2.ensures.value ∙ ap (λ (v : _). v.items) c.deref.ensures)
    ∙ c.self.invariant.1.3
    ∙ ap ends_of (sym (plain_doc_events-marked (slice_range d.shared.value.items d.from d.to))
    ∙ ap (λ (p : PlainDocument). map (λ (e : PlainDocEvent × Position). e.0) p.events) c.self.view_is)
