-- The data of a folder, from that of its fields.
use Rattle.std.proofs.Common.{◌≡◌, ℕ, List, [], ◌∷◌, map, true, rules, sym, ◌∙◌, ap}
use Rattle.std.specs.Prelude.{Vec, string_bytes}
use Rattle.std.specs.Borrow.{Bor}
use Rattle.std.specs.declared.alloc.Global.{Global}
use Rattle.yaml_shape.specs.DataView.{data_of, items_of, items_view}
use Rattle.yaml_shape.specs.PlainData.{PlainData, text_data, seq_data, struct_data, no_items, item}
use Rattle.yaml_shape.specs.declared.data.Data.{Data, the_lemmas}
use Rattle.yaml_shape.specs.declared.data.Data as code
use Rattle.yaml_shape.specs.declared.text.Text.TheVariants.{Borrowed}
use Rattle.yaml_types.proofs.StructFound.{data_of-Struct}
use Rattle.uses.specs.Folders.{folder_level, folder_data}
use Rattle.uses.specs.declared.folder.Folder.{Folder}
use Rattle.uses.specs.declared.folder.Folder.TheViews.{out-Folder}
use Rattle.uses.specs.declared.folder.Folder.TheFolds.{fold_out-Folder}

-- a borrowed text as plain data
pub data_of-Str : (text : Bor (List ℕ)) → data_of (code.Str (Borrowed text)) ≡ text_data true text.now
data_of-Str text = search (rules, the_lemmas)

-- a folder's fields are its name and the folders in it
pub folder_shown : (f : Folder) (fields : Vec Data Global) (name folders : Data) → fields.items ≡ name ∷ folders ∷ []
    → data_of name ≡ text_data true (string_bytes (out-Folder f).name)
    → data_of folders ≡ seq_data (items_of (map folder_data (out-Folder f).folders.items))
    → data_of (code.Struct fields) ≡ folder_data f
folder_shown f fields name folders both n l =
    data_of-Struct fields
    ∙ (ap (λ fs. struct_data (items_view fs)) both
    ∙ ((λ t. struct_data (item (n t) (item (l t) no_items))) ∙ sym (fold_out-Folder PlainData folder_level f)))
