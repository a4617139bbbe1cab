-- Each entry is one pair.
use Rattle.std.proofs.Common.{ap, sym, ◌∙◌}
use Rattle.yaml_tree.specs.Tree.{pair_count}
use Rattle.yaml_tree.proofs.Views.{pairs_of-view, pair_count-entry_pairs}
use Rattle.yaml_tree.proofs.mapping.Mapping.len.Goals as goal

pub returns : goal.returns
returns c =
    let entries = c.self.inside.entries in
    c.len.ensures
    ∙ (entries.ok.0
    ∙ (sym (pair_count-entry_pairs entries.items)
    ∙ ap pair_count (pairs_of-view _ _ c.self.view_is c.self.invariant.0)))
