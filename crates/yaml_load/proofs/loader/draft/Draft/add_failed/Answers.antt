-- The range of a document without events lies behind all events.
use Rattle.yaml_load.proofs.Words.{arith, refl, Cut}
use Rattle.yaml_load.proofs.FinishLaws.{failed_more}
use Rattle.yaml_load.proofs.loader.draft.Draft.add_failed.Goals as goal

pub returns : goal.returns
returns c = λ documents h.
    let old = c.args.self.now in
    let from = c.len-from.result in
    let cut : Cut = record { from = from; to = from; error = c.in_ok-error.error } in
    rw (← c.from.ensures, ← c.in_ok-error.ensures)
    (failed_more h _ cut refl refl refl c.in_ok-push.ensures.items (omega (arith, old.events.ok, c.len-from.ensures))
    refl)
