-- The key is not there, so the keys stay distinct.
use Rattle.std.proofs.Common.{ap, ◌∙◌}
use Rattle.std.proofs.lemmas.Result.{on_err_weaker, on_ok_weaker}
use Rattle.yaml_value.specs.Find.{value_at}
use Rattle.yaml_value.specs.Index.{IsSound}
use Rattle.yaml_value.specs.PlainValue.{with_last}
use Rattle.yaml_value.specs.View.{plain}
use Rattle.yaml_value.proofs.Views.{nowhere, pairs_of-view, view-entries}
use Rattle.yaml_value.proofs.mapping.Mapping.append.Goals as goal

still_sound : (c : goal.After-add) → IsSound c.add.new.entries.items
still_sound c =
    c.add.ensures.sound c.self.invariant
    (nowhere (plain c.args.key) _
    (ap (value_at (plain c.args.key)) (pairs_of-view c.self.inside.entries.items c.args.self.now c.self.view_is
    c.self.invariant.1) ∙ c.requires))

pub invariant_of-self : goal.invariant_of-self
invariant_of-self c = still_sound c

pub returns-clause-ok : goal.returns-clause-ok
returns-clause-ok c =
    on_ok_weaker c.add.result
    (λ e. view-entries c.add.new.entries.items (still_sound c).1
    ∙ (e ∙ ap (λ ps. with_last ps (plain c.args.key) (plain c.args.value))
    (pairs_of-view c.self.inside.entries.items c.args.self.now c.self.view_is c.self.invariant.1)))
    c.add.ensures.ok

pub returns-clause-err : goal.returns-clause-err
returns-clause-err c =
    on_err_weaker c.add.result
    (λ e. view-entries c.add.new.entries.items (still_sound c).1
    ∙ (e ∙ pairs_of-view c.self.inside.entries.items c.args.self.now c.self.view_is c.self.invariant.1))
    c.add.ensures.err
