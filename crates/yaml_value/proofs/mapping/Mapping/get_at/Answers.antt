-- The entries are the pairs.
use Rattle.std.proofs.Common.{ap, subst, sym, ◌∙◌}
use Rattle.yaml_value.specs.Find.{value_at}
use Rattle.yaml_value.specs.Index.{IsSound}
use Rattle.yaml_value.specs.View.{entry_pairs, plain, plain_pairs}
use Rattle.yaml_value.proofs.Views.{pairs_of-view, told}
use Rattle.yaml_value.proofs.mapping.Mapping.get_at.Goals as goal

pub value_of_key-requires : goal.value_of_key-requires
value_of_key-requires c = subst IsSound (sym c.as_slice.ensures.value) c.self.invariant

pub returns-clause-value : goal.returns-clause-value
returns-clause-value c =
    c.value_of_key.ensures
    ∙ ap (value_at (plain c.args.key.now))
    (ap entry_pairs c.as_slice.ensures.value ∙ pairs_of-view c.self.inside.entries.items c.args.self.now
    c.self.view_is c.self.invariant.1)

pub returns-clause-found : goal.returns-clause-found
returns-clause-found c =
    told (plain c.args.key.now) (plain_pairs c.args.self.now) (λ value. plain value.now) c.value_of_key.result
    (c.value_of_key.ensures
    ∙ ap (value_at (plain c.args.key.now))
    (ap entry_pairs c.as_slice.ensures.value ∙ pairs_of-view c.self.inside.entries.items c.args.self.now
    c.self.view_is c.self.invariant.1))
