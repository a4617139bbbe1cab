-- Folders as data of a shape that leads back to itself.
use Rattle.std.specs.Prelude.{◌≡◌, List, map, [], ◌∷◌, true, false, codes, string_bytes}
use Rattle.yaml_shape.specs.DataView.{items_of}
use Rattle.yaml_shape.specs.EqualData.{EqualData, items_eq}
use Rattle.yaml_shape.specs.PlainData.{PlainData, PlainItems, text_data, seq_data, struct_data, no_items, item}
use Rattle.yaml_shape.specs.PlainShape.{str_shape, seq_shape, fields_shape, of_struct}
use Rattle.yaml_types.specs.Start.{Start}
use Rattle.uses.specs.declared.folder.Folder.{Folder}
use Rattle.uses.specs.declared.folder.Folder.TheOpen.{Folder-F}
use Rattle.uses.specs.declared.folder.Folder.TheFolds.{fold-Folder}

-- the table of a name, of the folders in a folder, and of a folder, which is the shape of these too
abbrev pub folder_start : Start
folder_start = (
  str_shape ∷ seq_shape 2
      ∷ fields_shape false (of_struct (codes "Folder")) ((codes "name", 0) ∷ (codes "folders", 1) ∷ []) ∷ [],
  2,
)

-- one folder, with each folder in it seen as data already
abbrev pub folder_level : Folder-F PlainData → PlainData
folder_level f =
    struct_data (item (text_data true (string_bytes f.name)) (item (seq_data (items_of f.folders.items)) no_items))

-- the data of a folder
abbrev pub folder_data : Folder → PlainData
folder_data = fold-Folder PlainData folder_level

-- the folder whose data is equal to this
abbrev pub BuiltFolder : PlainData → Folder → Type 0
BuiltFolder d f = EqualData (folder_data f) d

-- the folders whose data is equal to these items, in order
abbrev pub BuiltFolders : PlainItems → List Folder → Type 0
BuiltFolders ds fs = items_eq (items_of (map folder_data fs)) ds ≡ true
