-- Each turn copies one more.
use Rattle.std.proofs.Common.{ap, ◌∙◌}
use Rattle.yaml_value.specs.View.{plain_items}
use Rattle.yaml_value.proofs.Copies.{copied-all, entries-more, same-is}
use Rattle.yaml_value.proofs.Views.{items-more}
use Rattle.yaml_value.proofs.value.copy.+copy.Goals as goal

pub copy_sequence-loop-item-preserved : goal.copy_sequence-loop-item-preserved
copy_sequence-loop-item-preserved t c =
    ap plain_items c.in_ok-push.ensures.items
    ∙ items-more _ _ _ c.in_ok-copy_value.field-0 c.item-item.result c.loop-item.invariant c.loop-item-test.true
    c.item-item.is c.in_ok-copy_value.ensures

pub copy_mapping-loop-entry-preserved : goal.copy_mapping-loop-entry-preserved
copy_mapping-loop-entry-preserved t c =
    same-is _ _ _ c.in_ok-push.ensures.items
    (entries-more _ _ _ c.in_ok-copied.copied c.entry-item.result c.loop-entry.invariant c.loop-entry-test.true
    c.entry-item.is c.in_ok-copied.ensures)

pub copy_mapping-invariant_of-result : goal.copy_mapping-invariant_of-result
copy_mapping-invariant_of-result t c =
    (copied-all _ _ _ c.loop-entry.entry-index c.deref-entry-items.ensures.value c.loop-entry-test.false
    c.loop-entry.invariant c.mapping.invariant).1
