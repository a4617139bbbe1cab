-- The entries are the pairs.
use Rattle.std.proofs.Common.{ap, ◌∙◌}
use Rattle.yaml_value.specs.View.{entry_pairs}
use Rattle.yaml_value.proofs.Views.{pairs_of-view}
use Rattle.yaml_value.proofs.mapping.Mapping.iter.Goals as goal

pub returns : goal.returns
returns c =
    ap entry_pairs (c.iter.ensures.rest ∙ c.deref.ensures.value)
    ∙ pairs_of-view c.self.inside.entries.items c.args.self.now c.self.view_is c.self.invariant.1
