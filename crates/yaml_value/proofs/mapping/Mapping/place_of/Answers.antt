-- The entries are the pairs.
use Rattle.std.proofs.Common.{ap, subst, sym, ◌∙◌, ◌<◌}
use Rattle.std.specs.Prelude.{IfSome}
use Rattle.yaml_value.specs.Find.{place_where}
use Rattle.yaml_value.specs.PlainEqual.{plain_eq}
use Rattle.yaml_value.specs.PlainValue.{pair_count, text}
use Rattle.yaml_value.proofs.Views.{pair_count-entries, pairs_of-view}
use Rattle.yaml_value.proofs.mapping.Mapping.place_of.Goals as goal

pub returns-clause-place : goal.returns-clause-place
returns-clause-place c =
    c.place_in.ensures.place
    ∙ ap (place_where (plain_eq (text c.args.key.now))) (pairs_of-view c.self.inside.entries.items c.args.self.now
    c.self.view_is c.self.invariant.1)

pub returns-clause-within : goal.returns-clause-within
returns-clause-within c =
    let counts = pair_count-entries c.self.inside.entries.items in
    let seen = ap pair_count (pairs_of-view c.self.inside.entries.items c.args.self.now c.self.view_is
    c.self.invariant.1) in
    subst (λ n. IfSome c.place_in.result (λ i. i < n)) (sym counts ∙ seen) c.place_in.ensures.within
