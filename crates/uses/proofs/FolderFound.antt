-- Data of the shape of folders has a name, and a sequence of data of that shape.
use Rattle.std.proofs.Common.{◌≡◌, ◌<◌, ◌+◌, ℕ, zero, suc, List, [], ◌∷◌, ◌++◌, map, length, take, get_or, true}
use Rattle.std.proofs.Common.{◌&&◌, refl, sym, ◌∙◌, ap, subst, arith}
use Rattle.std.specs.Prelude.{string_bytes}
use Rattle.std.proofs.lemmas.List.{map-append, take_more}
use Rattle.yaml_tree.specs.TakeOut.{from_false, and_left, and_right}
use Rattle.yaml_shape.specs.DataView.{data_of, items_of, items_view}
use Rattle.yaml_shape.specs.EqualData.{EqualData, data_eq, items_eq}
use Rattle.yaml_shape.specs.HasShape.{HasShape, has_shape, all_have, each_has}
use Rattle.yaml_shape.specs.PlainData.{PlainData, text_data, seq_data, struct_data}
use Rattle.yaml_shape.specs.declared.data.Data.{Data}
use Rattle.uses.specs.Folders.{folder_start, folder_level, folder_data, BuiltFolder, BuiltFolders}
use Rattle.uses.specs.declared.folder.Folder.{Folder}
use Rattle.uses.specs.declared.folder.Folder.TheOpen.{Folder-F}
use Rattle.uses.specs.declared.folder.Folder.TheViews.{roll-Folder}
use Rattle.uses.specs.declared.folder.Folder.TheFolds.{fold-roll-Folder}

-- the fields of a folder are two, the first of the shape of names, and the second of that of its folders
pub record HasFields (fields : List Data) : Type 0 where
  pub name : Data
  pub folders : Data
  pub both : fields ≡ name ∷ folders ∷ []
  pub name_has : HasShape folder_start.0 0 (data_of name)
  pub folders_has : HasShape folder_start.0 1 (data_of folders)

pub two_fields : (fields : List Data) → each_has folder_start.0 (0 ∷ 1 ∷ []) (items_view fields) ≡ true
    → HasFields fields
two_fields [] h = from_false h
two_fields (x ∷ []) h = from_false (and_right (has_shape folder_start.0 0 (data_of x)) _ h)
two_fields (x ∷ y ∷ []) h = record {
  name = x;
  folders = y;
  both = refl;
  name_has = and_left (has_shape folder_start.0 0 (data_of x)) _ h;
  folders_has = and_left (has_shape folder_start.0 1 (data_of y)) _
      (and_right (has_shape folder_start.0 0 (data_of x)) _ h);
}
two_fields (x ∷ y ∷ z ∷ rest) h =
    from_false (and_right (has_shape folder_start.0 1 (data_of y)) _
    (and_right (has_shape folder_start.0 0 (data_of x)) _ h))

-- the second of them
pub second_has : (fields : List Data) (d : Data) → d ≡ get_or fields 1 d
    → each_has folder_start.0 (0 ∷ 1 ∷ []) (items_view fields) ≡ true → HasShape folder_start.0 1 (data_of d)
second_has fields d is h =
    let are = two_fields fields h in
    subst (λ e. HasShape folder_start.0 1 (data_of e)) (sym (is ∙ ap (λ l. get_or l 1 d) are.both)) are.folders_has

-- a folder's data, from that of its fields
pub folder_made : (fields : List Data) (d e : Data) (made : Folder-F Folder)
    → each_has folder_start.0 (0 ∷ 1 ∷ []) (items_view fields) ≡ true → d ≡ get_or fields 0 d → e ≡ get_or fields 1 e
    → EqualData (text_data true (string_bytes made.name)) (data_of d)
    → EqualData (seq_data (items_of (map folder_data made.folders.items))) (data_of e)
    → BuiltFolder (struct_data (items_view fields)) (roll-Folder made)
folder_made fields d e made h first second n f =
    let are = two_fields fields h in
    let one : d ≡ are.name = first ∙ ap (λ l. get_or l 0 d) are.both in
    let two : e ≡ are.folders = second ∙ ap (λ l. get_or l 1 e) are.both in
    let name_eq : EqualData (text_data true (string_bytes made.name)) (data_of are.name) =
    subst (λ x. EqualData (text_data true (string_bytes made.name)) (data_of x)) one n in
    let list_eq : EqualData (seq_data (items_of (map folder_data made.folders.items))) (data_of are.folders) =
    subst (λ x. EqualData (seq_data (items_of (map folder_data made.folders.items))) (data_of x)) two f in
    subst (λ fs. BuiltFolder (struct_data (items_view fs)) (roll-Folder made)) (sym are.both)
    (subst (λ x. EqualData x (struct_data (items_view (are.name ∷ are.folders ∷ []))))
    (sym (fold-roll-Folder PlainData folder_level made)) (λ t. name_eq t && (list_eq t && true)))

push_eq : (xs ys : List PlainData) (a b : PlainData) → items_eq (items_of xs) (items_of ys) ≡ true
    → data_eq a b ≡ true → items_eq (items_of (xs ++ a ∷ [])) (items_of (ys ++ b ∷ [])) ≡ true
push_eq [] [] a b h e = λ t. e t && true
push_eq (x ∷ xs) (y ∷ ys) a b h e = λ t. and_left (data_eq x y) _ h t
    && push_eq xs ys a b (and_right (data_eq x y) _ h) e t
push_eq [] (y ∷ ys) a b h e = from_false h
push_eq (x ∷ xs) [] a b h e = from_false h

-- one more folder was built
pub built_more : (items : List Data) (i : ℕ) (d : Data) (folders pushed : List Folder) (f : Folder)
    → i < length items → d ≡ get_or items i d → pushed ≡ folders ++ f ∷ [] → BuiltFolder (data_of d) f
    → BuiltFolders (items_view (take i items)) folders → BuiltFolders (items_view (take (i + 1) items)) pushed
built_more items i d folders pushed f lt is push b are =
    let more : take (i + 1) items ≡ take i items ++ d ∷ [] =
    take_more items i d lt ∙ ap (λ y. take i items ++ y ∷ []) (sym is) in
    let left : map folder_data pushed ≡ map folder_data folders ++ folder_data f ∷ [] =
    ap (map folder_data) push ∙ map-append folder_data folders (f ∷ []) in
    let right : map data_of (take (i + 1) items) ≡ map data_of (take i items) ++ data_of d ∷ [] =
    ap (map data_of) more ∙ map-append data_of (take i items) (d ∷ []) in
    subst (λ l. items_eq (items_of l) (items_view (take (i + 1) items)) ≡ true) (sym left)
    (subst (λ l. items_eq (items_of (map folder_data folders ++ folder_data f ∷ [])) (items_of l) ≡ true) (sym right)
    (push_eq (map folder_data folders) (map data_of (take i items)) (folder_data f) (data_of d) are b))

-- each item is of the shape of folders
pub element_has : (items : List Data) (i : ℕ) (d : Data) → i < length items
    → all_have folder_start.0 2 (items_view items) ≡ true → HasShape folder_start.0 2 (data_of (get_or items i d))
element_has [] i d lt h = absurd (omega (arith, lt))
element_has (x ∷ items) zero d lt h = and_left (has_shape folder_start.0 2 (data_of x)) _ h
element_has (x ∷ items) (suc i) d lt h =
    element_has items i d (omega (arith, lt)) (and_right (has_shape folder_start.0 2 (data_of x)) _ h)

pub item_has : (items : List Data) (i : ℕ) (d : Data) → i < length items → d ≡ get_or items i d
    → all_have folder_start.0 2 (items_view items) ≡ true → HasShape folder_start.0 2 (data_of d)
item_has items i d lt is h =
    subst (λ e. HasShape folder_start.0 2 (data_of e)) (sym is) (element_has items i d lt h)
