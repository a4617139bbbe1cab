-- The data so far is that of the folders so far.
use Rattle.std.proofs.Common.{◌≡◌, map, take}
use Rattle.yaml_shape.specs.DataView.{data_of}
use Rattle.uses.specs.Folders.{folder_data}
use Rattle.uses.proofs.folder.+written_folder.Given as goal

abbrev pub invariant-loop-inner : goal.invariant-loop-inner
invariant-loop-inner l = map data_of l.folders.items ≡ map folder_data (take l.inner-index l.inner-items)
