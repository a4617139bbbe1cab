-- A folder is built field by field, and the folders in it one by one.
use Rattle.std.proofs.Common.{arith}
use Rattle.uses.proofs.FolderFound.{second_has, folder_made, item_has, built_more}
use Rattle.uses.proofs.FolderSizes.{second_smaller, item_smaller}
use Rattle.uses.proofs.folder.+build.Goals as goal

pub build_fields-build_list-requires : goal.build_fields-build_list-requires
build_fields-build_list-requires t c =
    let smaller = second_smaller c.args.fields.now c.index-fields-1.result c.index-fields-1.is c.requires in (
      omega (arith, smaller, c.decreases),
      second_has c.args.fields.now c.index-fields-1.result c.index-fields-1.is c.requires,
    )

pub build_fields-returns-in-Ok-build_list-clause-ok : goal.build_fields-returns-in-Ok-build_list-clause-ok
build_fields-returns-in-Ok-build_list-clause-ok t c =
    folder_made c.args.fields.now c.index-fields-0.result c.index-fields-1.result
    (record { name = c.in-Ok.name; folders = c.in-Ok-build_list.folders }) c.requires c.index-fields-0.is
    c.index-fields-1.is c.in-Ok.ensures.ok c.in-Ok-build_list.ensures.ok

pub build_items-build_folder-requires : goal.build_items-build_folder-requires
build_items-build_folder-requires t c =
    let smaller = item_smaller c.args.items.now c.loop-item.item-index c.item-item.result c.loop-item-test.true
    c.item-item.is in (
      omega (arith, smaller, c.decreases),
      item_has c.args.items.now c.loop-item.item-index c.item-item.result c.loop-item-test.true c.item-item.is
          c.requires,
    )

pub build_items-loop-item-preserved : goal.build_items-loop-item-preserved
build_items-loop-item-preserved t c =
    built_more c.args.items.now c.loop-item.item-index c.item-item.result c.loop-item.folders.items
    c.push.new.self.items c.in_ok-build_folder.field-0 c.loop-item-test.true c.item-item.is c.in_ok-push.ensures.items
    c.in_ok-build_folder.ensures.ok c.loop-item.invariant
