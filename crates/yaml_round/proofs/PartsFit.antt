-- Data fits whose parts do.
use Rattle.std.proofs.Common.{◌≡◌, ◌≤◌, ℕ, suc, List, Option, None, Some, Ok, true, false, arith}
use Rattle.std.proofs.Common.{refl, ap}
use Rattle.std.specs.Prelude.{◌&&◌, not, slice_get}
use Rattle.yaml_base.specs.EmitTree.{EmitNode, EmitNodes, emit_sequence_node, emit_node, no_emit_nodes}
use Rattle.yaml_shape.specs.HasShape.{HasShape, has_shape, all_have}
use Rattle.yaml_shape.specs.PlainData.{PlainData, any_data, some_data, seq_data, variant_data}
use Rattle.yaml_shape.specs.PlainData.{PlainItems, no_items, item}
use Rattle.yaml_shape.specs.PlainShape.{PlainShape, PlainVariant, any_shape, option_shape, seq_shape, enum_shape}
use Rattle.yaml_shape.specs.PlainShape.{newtype_variant, shape_at}
use Rattle.yaml_tree.specs.Tree.{Tree}
use Rattle.yaml_write.specs.LocalTags.{local_tag}
use Rattle.yaml_write.specs.Outcomes.{made, joined}
use Rattle.yaml_write.specs.Written.{written, written_elements}
use Rattle.yaml_write.specs.WrittenValue.{written_value}
use Rattle.yaml_round.specs.Fits.{Fits, EachFits, data_fits, all_fit, tree_fits, is_variant_name, is_written_null}
use Rattle.yaml_printed.specs.Nestings.{nestings, items_nestings, tree_nestings}
use Rattle.yaml_round.proofs.SameOrders.{both}
use Rattle.yaml_round.proofs.SimpleFits.{joined_ok}

module _ (t : List PlainShape) where
  -- an optional, whose content fits and is not written as null
  pub optional_fits : (nesting id inner : ℕ) (d : PlainData) → shape_at t id ≡ Some (option_shape inner)
      → Fits nesting t inner d → is_written_null (written t inner None d) ≡ false → Fits nesting t id (some_data d)
  optional_fits nesting id inner d at fits present = record {
    typed = rw at fits.typed;
    written = (fits.written.0, rw at fits.written.1);
    nests_within = fits.nests_within;
    returns = rw at
        (both (not (is_written_null (written t inner None d))) (data_fits t inner d) (ap not present) fits.returns);
  }

  -- a value of any kind, which is written, and whose tags begin with one `!` at most
  pub value_fits : (nesting id : ℕ) (v : Tree) (e : EmitNode) → shape_at t id ≡ Some any_shape
      → written_value None v ≡ Ok e → tree_nestings v ≤ nesting → tree_fits v ≡ true
      → Fits nesting t id (any_data v)
  value_fits nesting id v e at writes nests fits = record {
    typed = rw at refl;
    written = (e, writes);
    nests_within = nests;
    returns = fits;
  }

  -- a variant around one content, which is written under the variant's tag and fits otherwise
  pub variant_fits : (nesting id inner place : ℕ) (name owner : List ℕ) (variants : List (List ℕ × PlainVariant))
      (d : PlainData) (e : EmitNode) → shape_at t id ≡ Some (enum_shape owner variants)
      → slice_get variants place ≡ Some (name, newtype_variant inner) → is_variant_name name ≡ true
      → HasShape t inner d → written t inner (Some (local_tag name)) d ≡ Ok e → nestings d ≤ nesting
      → data_fits t inner d ≡ true → Fits nesting t id (variant_data place d)
  variant_fits nesting id inner place name owner variants d e at there named has writes nests fits = record {
    typed = rw (at, there) has;
    written = (e, rw (at, there) writes);
    nests_within = nests;
    returns = rw (at, there) (both (is_variant_name name) (data_fits t inner d) named fits);
  }

  each_typed : (nesting element : ℕ) (ds : PlainItems) → EachFits nesting t element ds → all_have t element ds ≡ true
  each_typed nesting element no_items fits = refl
  each_typed nesting element (item d ds) fits =
      both (has_shape t element d) (all_have t element ds) fits.0.typed (each_typed nesting element ds fits.1)

  each_written : (nesting element : ℕ) (ds : PlainItems) → EachFits nesting t element ds
      → (es : EmitNodes) × (written_elements t element ds ≡ Ok es)
  each_written nesting element no_items fits = (no_emit_nodes, refl)
  each_written nesting element (item d ds) fits =
      let w = fits.0.written in
      let rest = each_written nesting element ds fits.1 in
      (emit_node w.0 rest.0, joined_ok emit_node w.1 rest.1)

  each_nests : (nesting element : ℕ) (ds : PlainItems) → EachFits nesting t element ds → items_nestings ds ≤ nesting
  each_nests nesting element no_items fits = omega arith
  each_nests nesting element (item d ds) fits =
      omega (arith, fits.0.nests_within, each_nests nesting element ds fits.1)

  each_returns : (nesting element : ℕ) (ds : PlainItems) → EachFits nesting t element ds → all_fit t element ds ≡ true
  each_returns nesting element no_items fits = refl
  each_returns nesting element (item d ds) fits =
      both (data_fits t element d) (all_fit t element ds) fits.0.returns (each_returns nesting element ds fits.1)

  -- a list, each of whose elements fits within one nesting less
  pub list_fits : (nesting id element : ℕ) (ds : PlainItems) → shape_at t id ≡ Some (seq_shape element)
      → EachFits nesting t element ds → Fits (suc nesting) t id (seq_data ds)
  list_fits nesting id element ds at fits =
      let w = each_written nesting element ds fits in
      record {
        typed = rw at (each_typed nesting element ds fits);
        written = (emit_sequence_node None w.0, rw at (ap (made (emit_sequence_node None)) w.1));
        nests_within = omega (arith, each_nests nesting element ds fits);
        returns = rw at (each_returns nesting element ds fits);
      }
