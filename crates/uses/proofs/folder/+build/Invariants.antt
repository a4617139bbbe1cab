-- The folders so far are those of the items so far, and the data gets smaller.
use Rattle.std.proofs.Common.{take}
use Rattle.yaml_shape.specs.DataView.{data_of, items_view}
use Rattle.uses.specs.Folders.{BuiltFolders}
use Rattle.uses.proofs.FolderSizes.{data_size, items_size}
use Rattle.uses.proofs.folder.+build.Given as goal

abbrev pub invariant-build_items-loop-item : goal.invariant-build_items-loop-item
invariant-build_items-loop-item l = BuiltFolders (items_view (take l.item-index l.items)) l.folders.items

abbrev pub decreases-build_folder : goal.decreases-build_folder
decreases-build_folder l = data_size (data_of l.found.now)

abbrev pub decreases-build_fields : goal.decreases-build_fields
decreases-build_fields l = items_size (items_view l.fields.now)

abbrev pub decreases-build_list : goal.decreases-build_list
decreases-build_list l = data_size (data_of l.found.now)

abbrev pub decreases-build_items : goal.decreases-build_items
decreases-build_items l = items_size (items_view l.items.now)
