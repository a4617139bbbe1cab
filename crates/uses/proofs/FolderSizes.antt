-- How large the data of a folder is, which falls with each step into it.
use Rattle.std.proofs.Common.{◌≡◌, ◌<◌, ◌+◌, ℕ, zero, suc, List, [], ◌∷◌, length, get_or, sym, ◌∙◌, ap, subst, arith}
use Rattle.std.specs.Prelude.{true}
use Rattle.yaml_shape.specs.DataView.{data_of, items_view}
use Rattle.yaml_shape.specs.HasShape.{each_has}
use Rattle.yaml_shape.specs.PlainData.{PlainData, PlainItems, seq_data, struct_data, no_items, item}
use Rattle.yaml_shape.specs.declared.data.Data.{Data}
use Rattle.uses.specs.Folders.{folder_start}
use Rattle.uses.proofs.FolderFound.{two_fields}

abbrev mutual
  -- the items below, one and all
  pub data_size : PlainData → ℕ
  data_size (seq_data ds) = suc (items_size ds)
  data_size (struct_data ds) = suc (items_size ds)
  data_size _ = 0

  -- those of a list, and the data in it
  pub items_size : PlainItems → ℕ
  items_size no_items = 0
  items_size (item d ds) = suc (data_size d + items_size ds)

pub second_smaller : (fields : List Data) (d : Data) → d ≡ get_or fields 1 d
    → each_has folder_start.0 (0 ∷ 1 ∷ []) (items_view fields) ≡ true
    → data_size (data_of d) < items_size (items_view fields)
second_smaller fields d is h =
    let are = two_fields fields h in
    let same : d ≡ are.folders = is ∙ ap (λ l. get_or l 1 d) are.both in
    let size : data_size (data_of d) ≡ data_size (data_of are.folders) = ap (λ e. data_size (data_of e)) same in
    subst (λ l. data_size (data_of d) < items_size (items_view l)) (sym are.both) (omega (arith, size))

pub item_smaller : (items : List Data) (i : ℕ) (d : Data) → i < length items → d ≡ get_or items i d
    → data_size (data_of d) < items_size (items_view items)
item_smaller [] i d lt is = absurd (omega (arith, lt))
item_smaller (x ∷ items) zero d lt is =
    let size : data_size (data_of d) ≡ data_size (data_of x) = ap (λ e. data_size (data_of e)) is in
    omega (arith, size)
item_smaller (x ∷ items) (suc i) d lt is =
    let below = item_smaller items i d (omega (arith, lt)) is in omega (arith, below)
