-- Items put behind others one by one.
use Rattle.std.proofs.Common.{◌≡◌, List, [], ◌∷◌, ◌++◌, refl, ap}
use Rattle.yaml_shape.specs.PlainData.{PlainItems, no_items, item}
use Rattle.yaml_shape.specs.DataView.{data_of, items_view}
use Rattle.yaml_shape.specs.declared.data.Data.{Data}
use Rattle.yaml_types.specs.Rows.{items_then}

-- no others
pub then_nothing : (ds : PlainItems) → ds ≡ items_then ds no_items
then_nothing no_items = refl
then_nothing (item d ds) = ap (item d) (then_nothing ds)

-- one more
pub then_pushed : (ds : List Data) (d : Data) (es : PlainItems)
    → items_then (items_view (ds ++ d ∷ [])) es ≡ items_then (items_view ds) (item (data_of d) es)
then_pushed [] d es = refl
then_pushed (x ∷ ds) d es = ap (item (data_of x)) (then_pushed ds d es)
