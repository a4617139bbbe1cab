-- One more value at the end is one more tree there.
use Rattle.std.proofs.Common.{ap, ◌∙◌}
use Rattle.std.proofs.lemmas.Result.{on_ok_weaker}
use Rattle.yaml_tree.specs.Tree.{with_tree}
use Rattle.yaml_tree.specs.View.{tree_of, trees_of}
use Rattle.yaml_tree.proofs.Views.{trees_of-push, values_of-view}
use Rattle.yaml_tree.proofs.sequence.Sequence.push.Goals as goal

pub returns-clause-ok : goal.returns-clause-ok
returns-clause-ok c =
    on_ok_weaker c.add.result
    (λ e. ap trees_of e
    ∙ (trees_of-push c.self.inside.items.items c.args.value
    ∙ ap (λ ts. with_tree ts (tree_of c.args.value)) (values_of-view _ _ c.self.view_is)))
    c.add.ensures.ok
