-- Anchors that are sorted have the same targets.
use Rattle.yaml_load.proofs.Words.{List, ◌∙◌, ap, drop, sym, marked_events_of, Find, find_in, settled}
use Rattle.yaml_load.proofs.AnchorOrders.{Named}
use Rattle.yaml_load.proofs.AnchorSearch.{same_find}
use Rattle.yaml_load.proofs.loader.draft.Draft.settle.Goals as goal

pub returns-clause-settled : goal.returns-clause-settled
returns-clause-settled c =
    let old = c.args.self.now in
    let events = marked_events_of (drop old.from old.events.items) in
    ap (λ (f : Find). settled f old.anchors.aliases.items events)
    (same_find old.anchors.named.items c.sort_unstable.new.self.items c.sort_unstable.ensures.permutation)
    ∙ ap (λ (ns : List Named). settled (find_in ns) old.anchors.aliases.items events) (sym c.deref.ensures.value)
    ∙ ap (λ (xs : List Named). settled (find_in c.deref.result.now) xs events) (sym c.deref-2.ensures.value)
    ∙ c.resolve.ensures.settled
