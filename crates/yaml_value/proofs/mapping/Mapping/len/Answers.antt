-- The entries are the pairs.
use Rattle.std.proofs.Common.{ap, ◌∙◌}
use Rattle.yaml_value.specs.PlainValue.{pair_count}
use Rattle.yaml_value.specs.View.{entry_pairs}
use Rattle.yaml_value.proofs.Views.{pairs_of-view}
use Rattle.yaml_value.proofs.mapping.Mapping.len.Goals as goal

pub returns : goal.returns
returns c =
    c.count.ensures.pairs
    ∙ ap pair_count (ap entry_pairs c.as_slice.ensures.value ∙ pairs_of-view c.self.inside.entries.items
    c.args.self.now c.self.view_is c.self.invariant.1)
