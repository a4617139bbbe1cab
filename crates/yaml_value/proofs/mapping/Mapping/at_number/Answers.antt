-- The entries are the pairs.
use Rattle.std.proofs.Common.{ap, subst, sym, ◌∙◌}
use Rattle.yaml_value.specs.Find.{value_at}
use Rattle.yaml_value.specs.Index.{IsSound}
use Rattle.yaml_value.specs.View.{entry_pairs}
use Rattle.yaml_value.proofs.Views.{pairs_of-view}
use Rattle.yaml_value.proofs.mapping.Mapping.at_number.Goals as goal

pub value_of_key-found-requires : goal.value_of_key-found-requires
value_of_key-found-requires c = subst IsSound (sym c.as_slice.ensures.value) c.self.invariant

pub returns : goal.returns
returns c =
    let seen = ap entry_pairs c.as_slice.ensures.value ∙ pairs_of-view c.self.inside.entries.items c.args.self.now
    c.self.view_is c.self.invariant.1 in
    c.value_of_key-found.ensures ∙ (λ i. value_at (c.from-key.ensures i) (seen i))
