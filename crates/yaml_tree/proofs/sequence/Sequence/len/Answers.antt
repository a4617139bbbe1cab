-- Each value is one tree.
use Rattle.std.proofs.Common.{ap, sym, ◌∙◌}
use Rattle.yaml_tree.specs.Tree.{tree_count}
use Rattle.yaml_tree.proofs.Views.{tree_count-trees_of, values_of-view}
use Rattle.yaml_tree.proofs.sequence.Sequence.len.Goals as goal

pub returns : goal.returns
returns c =
    let items = c.self.inside.items in
    c.len.ensures
    ∙ (items.ok.0 ∙ (sym (tree_count-trees_of items.items) ∙ ap tree_count (values_of-view _ _ c.self.view_is)))
