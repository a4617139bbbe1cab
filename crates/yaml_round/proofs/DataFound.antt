-- How data is read back where it was written.
use Rattle.std.specs.Prelude.{Bool, true, map, nat_eq}
use Rattle.std.specs.Option.{is_some}
use Rattle.std.proofs.Common.{◌≡◌, ℕ, List, ◌++◌, length, Option, Some, Ok}
use Rattle.std.proofs.Common.{refl, sym, subst}
use Rattle.std.proofs.lemmas.Bool.Decides.{Decides-eqb}
use Rattle.yaml_base.specs.DocTree.{DocNode, DocNodes, DocPairs}
use Rattle.yaml_base.specs.EmitTree.{EmitNode}
use Rattle.yaml_shape.specs.DataView.{items_of}
use Rattle.yaml_shape.specs.HasShape.{has_shape}
use Rattle.yaml_shape.specs.PlainData.{PlainData, PlainItems, PlainEntries}
use Rattle.yaml_shape.specs.PlainShape.{PlainShape}
use Rattle.yaml_shape.specs.PlainShape.{shape_at}
use Rattle.yaml_meaning.specs.Fields.{Fields, Slots, no_slots}
use Rattle.yaml_meaning.specs.Meaning.{Means}
use Rattle.yaml_meaning.specs.Meaning.{MeanEach, MeanRow}
use Rattle.yaml_meaning.specs.Meaning.{MeanPairs, MeanFields}
use Rattle.yaml_write.specs.Written.{written}
use Rattle.yaml_round.specs.Fits.{data_fits}
use Rattle.yaml_printed.specs.Nestings.{nestings, items_nestings, entries_nestings}
use Rattle.yaml_round.specs.SameOrder.{same_data, same_items, same_entries}
use Rattle.yaml_round.proofs.RenderedTrees.{IsRendered}

-- a number is itself
pub same_number : (n : ℕ) → nat_eq n n ≡ true
same_number n = (Decides-eqb n n).1 refl

module _ (table : List PlainShape) (root : DocNode) where
  -- how data is read back
  pub record DataReturns (s : PlainShape) (n : DocNode) (taken : Bool) (d : PlainData) : Type 0 where
    pub found : PlainData
    pub means : Means table root s n taken found (nestings d) 0
    pub same : same_data d found ≡ true

  pub record ItemsReturn (s : PlainShape) (ns : DocNodes) (ds : PlainItems) : Type 0 where
    pub found : PlainItems
    pub means : MeanEach table root s ns found (items_nestings ds) 0
    pub same : same_items ds found ≡ true

  pub record RowReturns (ids : List ℕ) (ns : DocNodes) (ds : PlainItems) : Type 0 where
    pub found : PlainItems
    pub means : MeanRow table root ids ns found (items_nestings ds) 0
    pub same : same_items ds found ≡ true

  pub record EntriesReturn (s t : PlainShape) (ns : DocPairs) (es : PlainEntries) : Type 0 where
    pub found : PlainEntries
    pub means : MeanPairs table root s t ns found (entries_nestings es) 0
    pub same : same_entries es found ≡ true

  pub record FieldsReturn (strict : Bool) (all : Fields) (front : Slots) (rest : Fields) (ns : DocPairs)
      (ds : PlainItems) : Type 0 where
    pub found : List PlainData
    pub means : MeanFields table root strict all (front ++ no_slots rest) ns (front ++ map (λ v. Some v) found)
        (items_nestings ds) 0
    pub size : length found ≡ length rest
    pub same : same_items ds (items_of found) ≡ true

  -- the same of a shape that is the same
  pub shaped : (s s' : PlainShape) (n : DocNode) (taken : Bool) (d : PlainData) → s ≡ s' → DataReturns s' n taken d
      → DataReturns s n taken d
  shaped s s' n taken d e r = subst (λ s. DataReturns s n taken d) (sym e) r

  -- what is known of data by each number of a shape
  abbrev pub InnerReturns : PlainData → Type 0
  InnerReturns d = (id : ℕ) (s : PlainShape) (tag : Option (List ℕ)) (e : EmitNode) (n : DocNode)
      → shape_at table id ≡ Some s → has_shape table id d ≡ true → data_fits table id d ≡ true
      → written table id tag d ≡ Ok e → IsRendered e n → DataReturns s n (is_some tag) d
