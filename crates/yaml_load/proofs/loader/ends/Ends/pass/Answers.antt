-- The number of an event at which no collection begins or ends is its place.
use Rattle.yaml_load.proofs.Words.{refl, sym, subst, HasNumbers}
use Rattle.yaml_load.proofs.OpenEndsLaws.{passes}
use Rattle.yaml_load.proofs.loader.ends.Ends.pass.Goals as goal

pub returns-clause-numbers : goal.returns-clause-numbers
returns-clause-numbers c = λ front seen e h p o q.
    passes (subst (HasNumbers front seen) (sym c.self.view_is) h) e _ c.args.place p o q c.self.invariant
    c.in_ok-push.ensures.items refl
