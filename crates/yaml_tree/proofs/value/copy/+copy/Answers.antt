-- Each turn copies one more.
use Rattle.std.proofs.Common.{ap, ◌∙◌}
use Rattle.yaml_tree.specs.View.{trees_of}
use Rattle.yaml_tree.proofs.Copies.{copied-all, entries-more, same-is, trees_of-more}
use Rattle.yaml_tree.proofs.value.copy.+copy.Goals as goal

pub copy_items-loop-item-preserved : goal.copy_items-loop-item-preserved
copy_items-loop-item-preserved t c =
    ap trees_of c.in_ok-push.ensures.items
    ∙ trees_of-more _ _ _ c.in_ok-copy_value.field-0 c.item-item.result c.loop-item.invariant c.loop-item-test.true
    c.item-item.is c.in_ok-copy_value.ensures

pub copy_mapping-loop-entry-preserved : goal.copy_mapping-loop-entry-preserved
copy_mapping-loop-entry-preserved t c =
    same-is _ _ _ c.in_ok-push.ensures.items
    (entries-more _ _ _ c.in_ok-copied.copied c.entry-item.result c.loop-entry.invariant c.loop-entry-test.true
    c.entry-item.is c.in_ok-copied.ensures)

pub copy_mapping-invariant_of-result : goal.copy_mapping-invariant_of-result
copy_mapping-invariant_of-result t c =
    copied-all _ _ _ c.loop-entry.entry-index c.deref-entry-items.ensures.value c.loop-entry-test.false
    c.loop-entry.invariant c.mapping.invariant
