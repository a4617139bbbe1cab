-- The table of folders is closed, and the data of each folder is of its shape.
use Rattle.std.specs.Prelude.{◌≡◌, ◌<◌, ℕ, List, [], ◌∷◌, map, true, false, ◌&&◌, codes}
use Rattle.std.proofs.Common.{refl, sym, subst, arith}
use Rattle.std.proofs.lemmas.List.Elements.{All-nil, All-cons}
use Rattle.yaml_shape.specs.DataView.{items_of}
use Rattle.yaml_shape.specs.HasShape.{HasShape, has_shape, all_have}
use Rattle.yaml_shape.specs.PlainData.{PlainData}
use Rattle.yaml_shape.specs.PlainShape.{PlainShape, str_shape, seq_shape, fields_shape, of_struct}
use Rattle.yaml_shape.specs.Validity.{NamesWithin}
use Rattle.yaml_types.specs.Start.{IsClosed}
use Rattle.uses.specs.Folders.{folder_start, folder_level, folder_data}
use Rattle.uses.specs.declared.folder.Folder.{Folder}
use Rattle.uses.specs.declared.folder.Folder.TheFolds.{fold-roll-Folder, ind-Folder}

abbrev folder_shape : PlainShape
folder_shape = fields_shape false (of_struct (codes "Folder")) ((codes "name", 0) ∷ (codes "folders", 1) ∷ [])

abbrev IsInside : ℕ → Type 0
IsInside id = id < 3

-- the table names no shape outside
pub folder_closed : IsClosed folder_start
folder_closed = record {
  within = omega arith;
  closed = All-cons (NamesWithin 3) str_shape (seq_shape 2 ∷ folder_shape ∷ []) (All-nil IsInside)
      (All-cons (NamesWithin 3) (seq_shape 2) (folder_shape ∷ [])
      (All-cons IsInside 2 [] (omega arith) (All-nil IsInside))
      (All-cons (NamesWithin 3) folder_shape []
      (All-cons IsInside 0 (1 ∷ []) (omega arith) (All-cons IsInside 1 [] (omega arith) (All-nil IsInside)))
      (All-nil (NamesWithin 3))));
}

-- the data of the folder is of the shape
abbrev IsOfShape : Folder → Type 0
IsOfShape f = HasShape folder_start.0 2 (folder_data f)

all_of_shape : (fs : List ((f : Folder) × IsOfShape f))
    → all_have folder_start.0 2 (items_of (map folder_data (map (λ e. e.0) fs))) ≡ true
all_of_shape [] = refl
all_of_shape (e ∷ fs) = λ t. e.1 t && all_of_shape fs t

-- the data of each folder is of the shape, by induction
pub folder_of_shape : (f : Folder) → HasShape folder_start.0 2 (folder_data f)
folder_of_shape = ind-Folder IsOfShape (λ x y is.
    let below : all_have folder_start.0 2 (items_of (map folder_data x.folders.items)) ≡ true =
    subst (λ z. all_have folder_start.0 2 (items_of (map folder_data z.folders.items)) ≡ true) is
    (all_of_shape y.folders.items) in
    subst (λ d. has_shape folder_start.0 2 d ≡ true) (sym (fold-roll-Folder PlainData folder_level x))
    (λ t. below t && true))
