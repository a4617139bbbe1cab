-- The value at a place is the tree at that place.
use Rattle.std.proofs.Common.{ap, ◌∙◌, Some}
use Rattle.yaml_tree.specs.Tree.{tree_at}
use Rattle.yaml_tree.specs.View.{tree_of, trees_of}
use Rattle.yaml_tree.proofs.Views.{values_of-view, tree_at-within, tree_at-past}
use Rattle.yaml_tree.proofs.sequence.Sequence.get.Goals as goal

pub returns-then-index-items : goal.returns-then-index-items
returns-then-index-items c =
    let seen = ap trees_of c.as_slice-items.ensures.value ∙ values_of-view _ _ c.self.view_is in
    ap (λ v. Some (tree_of v)) c.index-items-index.is
    ∙ (tree_at-within _ _ c.index-items-index.result c.if-index-items.true ∙ ap (λ ts. tree_at ts c.args.index) seen)

pub returns-else-index-items : goal.returns-else-index-items
returns-else-index-items c =
    let seen = ap trees_of c.as_slice-items.ensures.value ∙ values_of-view _ _ c.self.view_is in
    tree_at-past _ _ c.if-index-items.false ∙ ap (λ ts. tree_at ts c.args.index) seen
