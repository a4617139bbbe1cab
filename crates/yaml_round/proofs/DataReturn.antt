-- Data as it is written means that data under its shape.
use Rattle.std.specs.Prelude.{Bool, true, not, slice_get}
use Rattle.std.specs.List.{list_all}
use Rattle.std.specs.Option.{is_some}
use Rattle.std.specs.Str.{is_utf8}
use Rattle.std.proofs.Common.{◌≡◌, ℕ, List, length, Option, Some, None, Ok}
use Rattle.std.proofs.Common.{refl, sym, ap, ◌∙◌, subst, arith}
use Rattle.yaml_base.specs.DocTree.{DocNode, list}
use Rattle.yaml_base.specs.EmitTree.{EmitNode, emit_sequence_node}
use Rattle.yaml_base.specs.EmitTree.{emit_mapping_node}
use Rattle.yaml_shape.specs.HasShape.{has_shape, all_have, each_has, entries_have, has_content}
use Rattle.yaml_shape.specs.PlainData.{PlainData, PlainItems, PlainEntries, any_data, bool_data, char_data, signed_data}
use Rattle.yaml_shape.specs.PlainData.{unsigned_data, text_data, bytes_data, none_data, some_data, unit_data}
use Rattle.yaml_shape.specs.PlainData.{newtype_data, seq_data, tuple_data, map_data, struct_data, variant_data}
use Rattle.yaml_shape.specs.PlainData.{ignored_data, no_items, item, no_entries, entry}
use Rattle.yaml_shape.specs.PlainShape.{PlainShape, option_shape, newtype_shape, seq_shape, row_shape, map_shape}
use Rattle.yaml_shape.specs.PlainShape.{fields_shape, enum_shape, ignored_shape, of_struct, shape_at}
use Rattle.yaml_shape.specs.Validity.{IsValidSchema, HasDistinctNames, NamesWithin, IsDistinctInside}
use Rattle.yaml_shape.specs.Validity.{names_of, numbers_of}
use Rattle.yaml_meaning.specs.Meaning.{Means, means_node, means_some, means_newtype, means_ignored}
use Rattle.yaml_meaning.specs.Meaning.{means_list, means_mapping, means_seq}
use Rattle.yaml_meaning.specs.Meaning.{means_map}
use Rattle.yaml_write.specs.InShape.{item_shapes, named_fields, named_variants}
use Rattle.yaml_write.specs.Written.{written, written_elements}
use Rattle.yaml_write.specs.Written.{written_entries}
use Rattle.yaml_write.specs.Written as writing
use Rattle.yaml_write.specs.WrittenParts.{written_content}
use Rattle.yaml_round.specs.Fits.{data_fits, each_fits, parts_fit, is_written_null}
use Rattle.yaml_round.specs.Fits.{variant_passes}
use Rattle.yaml_shape.specs.Held.{IsHeld, AreHeld, EntriesAreHeld, is_table, is_table_shape, is_named_content}
use Rattle.yaml_shape.specs.Held.{are_texts}
use Rattle.yaml_printed.specs.Nestings.{nestings}
use Rattle.yaml_round.proofs.ByPlace.{all_at, each_at, within, variant_at, name_at}
use Rattle.yaml_round.proofs.Contents.{data_stands}
use Rattle.yaml_round.proofs.Outcomes.{made_ok}
use Rattle.yaml_round.proofs.RenderedTrees.{IsRendered}
use Rattle.yaml_round.proofs.SameOrders.{first, second}
use Rattle.yaml_round.proofs.ShapesOfData.{shape_there, passes_there}
use Rattle.yaml_round.proofs.ShapesOfData.{option_is, newtype_is, seq_is, row_is, map_is, struct_is}
use Rattle.yaml_round.proofs.ShapesOfData.{variant_is, ignored_is}
use Rattle.yaml_round.proofs.ValuesReturn.{opposite}
use Rattle.yaml_round.proofs.DataFound.{DataReturns, shaped}
use Rattle.yaml_round.proofs.LeavesReturn.{any_returns, bool_returns, char_returns, signed_returns, unsigned_returns}
use Rattle.yaml_round.proofs.LeavesReturn.{text_returns, none_returns, unit_returns}
use Rattle.yaml_round.proofs.PartsReturn.{means_same}
use Rattle.yaml_round.proofs.VariantsReturn.{variant_returns}
use Rattle.yaml_round.proofs.ListsReturn.{EachReturns, PairsReturn, PartsReturnOf, items_return}
use Rattle.yaml_round.proofs.ListsReturn.{entries_return, tuple_returns, struct_returns}

module _ (table : List PlainShape) (root : DocNode) where
  abbrev Returns : PlainShape → DocNode → (taken : Bool) → PlainData → Type 0
  Returns = DataReturns table root

  module _ (valid : IsValidSchema table) (held : is_table table ≡ true) where
    -- what is known of a shape of the table
    of_table : (id : ℕ) (s : PlainShape) → shape_at table id ≡ Some s → is_table_shape s ≡ true
    of_table id s is = all_at is_table_shape table id s held is

    distinct_in : (id : ℕ) (s : PlainShape) → shape_at table id ≡ Some s → HasDistinctNames s
    distinct_in id s is = each_at HasDistinctNames table id s valid.distinct is

    -- a number that a shape names is in the table
    named_in_table : (id : ℕ) (s : PlainShape) → shape_at table id ≡ Some s → NamesWithin (length table) s
    named_in_table id s is = each_at (NamesWithin (length table)) table id s valid.closed is

    mutual
      pub data_returns : (d : PlainData) (id : ℕ) (s : PlainShape) (tag : Option (List ℕ)) (e : EmitNode) (n : DocNode)
          → shape_at table id ≡ Some s → has_shape table id d ≡ true → IsHeld d → data_fits table id d ≡ true
          → written table id tag d ≡ Ok e → IsRendered e n → Returns s n (is_some tag) d
      data_returns (any_data v) id s tag e n is has held fits h r =
          any_returns table root v s tag e n (rw is at has) held fits h r
      data_returns (bool_data b) id s tag e n is has held fits h r =
          bool_returns table root b s tag e n (rw is at has) h r
      data_returns (char_data c) id s tag e n is has held fits h r =
          char_returns table root c s tag e n (rw is at has) held h r
      data_returns (signed_data z) id s tag e n is has held fits h r =
          signed_returns table root z s tag e n (rw is at has) h r
      data_returns (unsigned_data u) id s tag e n is has held fits h r =
          unsigned_returns table root u s tag e n (rw is at has) h r
      data_returns (text_data lent text) id s tag e n is has held fits h r =
          text_returns table root lent text s tag e n (rw is at has) held h r
      data_returns (bytes_data bytes) id s tag e n is has held fits h r = absurd cc
      data_returns none_data id s tag e n is has held fits h r = none_returns table root s tag e n (rw is at has) h r
      data_returns unit_data id s tag e n is has held fits h r = unit_returns table root s tag e n (rw is at has) h r
      data_returns (some_data d) id s tag e n is has held fits h r =
          let o = option_is (λ c. has_shape table c d) s (rw is at has) in
          let here : shape_at table id ≡ Some (option_shape o.0) = is ∙ ap (λ s. Some s) o.1 in
          let at = shape_there table o.0 d o.2 in
          let fits = rw here at fits in
          let some = opposite (is_written_null (written table o.0 None d))
          (first (not (is_written_null (written table o.0 None d))) (data_fits table o.0 d) fits) in
          let h = rw here at h in
          let one = data_returns d o.0 at.0 tag e n at.1 o.2 held
          (second (not (is_written_null (written table o.0 None d))) (data_fits table o.0 d) fits) h r in
          let there = data_stands table d o.0 at.0 tag e n at.1 o.2 held some h r in
          shaped table root s (option_shape o.0) n (is_some tag) (some_data d) o.1
          (record {
            found = some_data one.found;
            means = means_node refl (rw there refl) (means_some at.1 one.means);
            same = one.same;
          })
      data_returns (newtype_data d) id s tag e n is has held fits h r =
          let o = newtype_is (λ c. has_shape table c d) s (rw is at has) in
          let here : shape_at table id ≡ Some (newtype_shape o.0 o.1) = is ∙ ap (λ s. Some s) o.2 in
          let at = shape_there table o.1 d o.3 in
          let one = data_returns d o.1 at.0 tag e n at.1 o.3 held (rw here at fits) (rw here at h) r in
          shaped table root s (newtype_shape o.0 o.1) n (is_some tag) (newtype_data d) o.2
          (record {
            found = newtype_data one.found;
            means = means_node refl refl (means_newtype at.1 one.means);
            same = one.same;
          })
      data_returns (seq_data ds) id s tag e n is has held fits h r =
          let o = seq_is (λ c. all_have table c ds) s (rw is at has) in
          let here : shape_at table id ≡ Some (seq_shape o.0) = is ∙ ap (λ s. Some s) o.1 in
          let at = within table o.0 ((named_in_table id (seq_shape o.0) here) 0 0 (omega arith)) in
          let m = made_ok (emit_sequence_node tag) (written_elements table o.0 ds) e (rw here at h) in
          let r : IsRendered (emit_sequence_node tag m.0) n = subst (λ e. IsRendered e n) m.2 r in
          let all = items_return table root ds o.0 at.0 m.0 r.0 at.1 o.2 (each_returns ds held)
          (rw here at fits) m.1 r.2 in
          shaped table root s (seq_shape o.0) n (is_some tag) (seq_data ds) o.1
          (record {
            found = seq_data all.found;
            means = means_same table root (seq_shape o.0) (is_some tag) (list tag r.0) n (seq_data all.found)
                (nestings (seq_data ds)) r.1 (means_node refl refl (means_list (means_seq at.1 all.means)));
            same = all.same;
          })
      data_returns (tuple_data ds) id s tag e n is has held fits h r =
          let o = row_is (λ ids. each_has table ids ds) s (rw is at has) in
          let here : shape_at table id ≡ Some (row_shape o.0 o.1) = is ∙ ap (λ s. Some s) o.2 in
          shaped table root s (row_shape o.0 o.1) n (is_some tag) (tuple_data ds) o.2
          (tuple_returns table root (tuple_data ds) o.0 o.1 tag e n o.3 (each_returns ds held)
          (subst (λ o. each_fits table (item_shapes o) ds ≡ true) here fits) (rw here at h) r)
      data_returns (map_data es) id s tag e n is has held fits h r =
          let o = map_is (λ key value. entries_have table key value es) s (rw is at has) in
          let here : shape_at table id ≡ Some (map_shape o.0 o.1) = is ∙ ap (λ s. Some s) o.2 in
          let named = named_in_table id (map_shape o.0 o.1) here in
          let at = within table o.0 (named 0 0 (omega arith)) in
          let at' = within table o.1 (named 1 0 (omega arith)) in
          let m = made_ok (emit_mapping_node tag) (written_entries table o.0 o.1 es) e (rw here at h) in
          let r : IsRendered (emit_mapping_node tag m.0) n = subst (λ e. IsRendered e n) m.2 r in
          let all = entries_return table root es o.0 o.1 at.0 at'.0 m.0 r.0 at.1 at'.1 o.3 (pairs_return es held)
          (rw here at fits) m.1 r.2 in
          shaped table root s (map_shape o.0 o.1) n (is_some tag) (map_data es) o.2
          (record {
            found = map_data all.found;
            means = subst (λ n. Means table root (map_shape o.0 o.1) n (is_some tag) (map_data all.found)
                (nestings (map_data es)) 0)
                (sym r.1) (means_node refl refl (means_mapping (means_map at.1 at'.1 all.means)));
            same = all.same;
          })
      data_returns (struct_data ds) id s tag e n is has held fits h r =
          let o = struct_is (λ ids. each_has table ids ds) s (of_table id s is) (rw is at has) in
          let here : shape_at table id ≡ Some (fields_shape o.0 (of_struct o.1) o.2) = is ∙ ap (λ s. Some s) o.3 in
          let shape = fields_shape o.0 (of_struct o.1) o.2 in
          shaped table root s shape n (is_some tag) (struct_data ds) o.3
          (struct_returns table root (struct_data ds) o.0 (of_struct o.1) o.2 tag e n (distinct_in id shape here)
          (of_table id shape here) o.4 (each_returns ds held)
          (subst (λ o. each_fits table (numbers_of (named_fields o)) ds ≡ true) here fits) (rw here at h) r)
      data_returns (variant_data place d) id s tag e n is has held fits h r =
          let v = variant_is place (has_content table d) s (rw is at has) in
          let here : shape_at table id ≡ Some (enum_shape v.0 v.1) = is ∙ ap (λ s. Some s) v.2 in
          let x = passes_there (slice_get v.1 place) (λ x. has_content table d x.1) v.3 in
          let there : slice_get (named_variants (shape_at table id)) place ≡ Some x.0 =
          ap (λ o. slice_get (named_variants o) place) here ∙ x.1 in
          let names = of_table id (enum_shape v.0 v.1) here in
          let apart = distinct_in id (enum_shape v.0 v.1) here in
          let utf8 = all_at is_utf8 (names_of v.1) place x.0.0
          (first (are_texts (names_of v.1)) (list_all (λ v. is_named_content v.1) v.1) names)
          (name_at v.1 place x.0 x.1) in
          let inside = all_at (λ v. is_named_content v.1) v.1 place x.0
          (second (are_texts (names_of v.1)) (list_all (λ v. is_named_content v.1) v.1) names) x.1 in
          let distinct = each_at (λ v. IsDistinctInside v.1) v.1 place x.0 apart.1 x.1 in
          shaped table root s (enum_shape v.0 v.1) n (is_some tag) (variant_data place d) v.2
          (variant_returns table root d v.0 v.1 place x.0.0 x.0.1 tag e n
          (λ id s tag e n is has fits h r. data_returns d id s tag e n is has held fits h r)
          (λ owner ids tag e n has fits h r.
          tuple_returns table root d owner ids tag e n has (parts_return d held) fits h r)
          (λ strict owner fields tag e n apart texts has fits h r.
          struct_returns table root d strict owner fields tag e n apart texts has (parts_return d held) fits h r)
          (variant_at v.1 place x.0 apart.0 x.1) utf8 inside distinct x.2
          (subst (λ o. variant_passes (λ inner. data_fits table inner d) (λ ids. parts_fit table ids d) o ≡ true)
          there fits) (subst (λ o. writing.variant_by o tag (written_content table d) ≡ Ok e) there h) r)
      data_returns ignored_data id s tag e n is has held fits h r =
          shaped table root s ignored_shape n (is_some tag) ignored_data (ignored_is s (rw is at has))
          (record { found = ignored_data; means = means_node refl refl means_ignored; same = refl })

      -- the same of each in a list, and of each part
      each_returns : (ds : PlainItems) → AreHeld ds → EachReturns table root ds
      each_returns no_items held = tt
      each_returns (item d ds) held =
          (λ id s tag e n is has fits h r. data_returns d id s tag e n is has held.0 fits h r, each_returns ds held.1)

      pairs_return : (es : PlainEntries) → EntriesAreHeld es → PairsReturn table root es
      pairs_return no_entries held = tt
      pairs_return (entry k v es) held = (
        λ id s tag e n is has fits h r. data_returns k id s tag e n is has held.0 fits h r,
        λ id s tag e n is has fits h r. data_returns v id s tag e n is has held.1 fits h r,
        pairs_return es held.2,
      )

      parts_return : (d : PlainData) → IsHeld d → PartsReturnOf table root d
      parts_return (tuple_data ds) held = each_returns ds held
      parts_return (struct_data ds) held = each_returns ds held
      parts_return _ held = tt
