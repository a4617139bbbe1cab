-- Lists of data mean themselves where each of them does: elements, entries, fields.
use Rattle.std.specs.Prelude.{Bool, true, ◌&&◌}
use Rattle.std.specs.Option.{is_some}
use Rattle.std.specs.Str.{is_utf8}
use Rattle.std.proofs.Common.{◌≡◌, ℕ, List, [], ◌∷◌, ◌++◌, length, Option, Some, None, Ok}
use Rattle.std.proofs.Common.{refl, sym, ap, ◌∙◌, subst}
use Rattle.std.proofs.lemmas.List.{append_assoc, length-append}
use Rattle.yaml_base.specs.DocTree.{DocNode, DocNodes, DocPairs}
use Rattle.yaml_base.specs.DocTree as doc
use Rattle.yaml_base.specs.EmitTree.{EmitNode, EmitNodes, EmitPairs, emit_sequence_node}
use Rattle.yaml_base.specs.EmitTree.{emit_mapping_node, no_emit_nodes, emit_node, no_emit_pairs, emit_pair}
use Rattle.yaml_shape.specs.DataView.{items_of}
use Rattle.yaml_shape.specs.HasShape.{has_shape, all_have, each_has, entries_have, tuple_has, struct_has}
use Rattle.yaml_shape.specs.PlainData.{PlainData, PlainItems, PlainEntries}
use Rattle.yaml_shape.specs.PlainData.{tuple_data, struct_data}
use Rattle.yaml_shape.specs.PlainData.{no_items, item, no_entries, entry}
use Rattle.yaml_shape.specs.PlainShape.{PlainShape, row_shape, fields_shape, Owner, shape_at}
use Rattle.yaml_shape.specs.Validity.{AreDistinct}
use Rattle.yaml_shape.specs.Validity.{names_of, numbers_of}
use Rattle.yaml_meaning.specs.Fields.{Fields, Slots}
use Rattle.yaml_meaning.specs.Meaning.{Means, means_node}
use Rattle.yaml_meaning.specs.Meaning.{means_list, means_mapping}
use Rattle.yaml_meaning.specs.Meaning.{means_row, means_fields}
use Rattle.yaml_meaning.specs.Meaning.{MeanEach, means_none, means_more, MeanRow, means_no_elements, means_element}
use Rattle.yaml_meaning.specs.Meaning.{MeanPairs, means_no_pairs, means_pair, MeanFields, means_no_fields}
use Rattle.yaml_write.specs.Outcomes.{made, joined, string_node}
use Rattle.yaml_write.specs.Written.{written, written_tuple, written_struct, written_elements, written_items}
use Rattle.yaml_write.specs.Written.{written_entries, written_fields}
use Rattle.yaml_write.specs.WrittenValue.{pair_node, pair_before}
use Rattle.yaml_round.specs.Fits.{data_fits, all_fit, each_fits, entries_fit, parts_fit}
use Rattle.yaml_shape.specs.Held.{are_texts}
use Rattle.yaml_printed.specs.Nestings.{nestings, items_nestings, entries_nestings}
use Rattle.yaml_round.specs.SameOrder.{same_data, same_items, same_entries}
use Rattle.yaml_round.proofs.FieldsInOrder.{struct_read}
use Rattle.yaml_round.proofs.Outcomes.{same_answer, made_ok, joined_ok}
use Rattle.yaml_round.proofs.RenderedTrees.{IsRendered, AreRendered, PairsAreRendered}
use Rattle.yaml_round.proofs.SameOrders.{both, first, second}
use Rattle.yaml_round.proofs.ShapesOfData.{shape_there}
use Rattle.yaml_round.proofs.DataFound.{DataReturns, ItemsReturn, RowReturns, EntriesReturn, FieldsReturn}
use Rattle.yaml_round.proofs.DataFound.{InnerReturns}
use Rattle.yaml_round.proofs.PartsReturn.{field_returns}

module _ (table : List PlainShape) (root : DocNode) where
  abbrev Returns : PlainShape → DocNode → (taken : Bool) → PlainData → Type 0
  Returns = DataReturns table root

  -- what is known of each of a list, of each key and value, and of each part of a variant's content
  abbrev pub EachReturns : PlainItems → Type 0
  EachReturns no_items = Unit {0}
  EachReturns (item d ds) = InnerReturns table root d × EachReturns ds

  abbrev pub PairsReturn : PlainEntries → Type 0
  PairsReturn no_entries = Unit {0}
  PairsReturn (entry k v xs) = InnerReturns table root k × InnerReturns table root v × PairsReturn xs

  abbrev pub PartsReturnOf : PlainData → Type 0
  PartsReturnOf (tuple_data ds) = EachReturns ds
  PartsReturnOf (struct_data ds) = EachReturns ds
  PartsReturnOf _ = Unit {0}

  -- elements, all of one shape
  pub items_return : (ds : PlainItems) (id : ℕ) (s : PlainShape) (es : EmitNodes) (ns : DocNodes)
      → shape_at table id ≡ Some s → all_have table id ds ≡ true → EachReturns ds → all_fit table id ds ≡ true
      → written_elements table id ds ≡ Ok es → AreRendered es ns → ItemsReturn table root s ns ds
  items_return no_items id s es ns is has each fits h r =
      let r : ns ≡ doc.no_nodes = subst (λ es. AreRendered es ns) (sym (same_answer no_emit_nodes es h)) r in
      record {
        found = no_items;
        means = subst (λ ns. MeanEach table root s ns no_items 0 0) (sym r) means_none;
        same = refl;
      }
  items_return (item d ds) id s es ns is has each fits h r =
      let j = joined_ok emit_node (written table id None d) (written_elements table id ds) es h in
      let r : AreRendered (emit_node j.0 j.1) ns = subst (λ es. AreRendered es ns) j.4 r in
      let one = each.0 id s None j.0 r.0 is (first (has_shape table id d) (all_have table id ds) has)
      (first (data_fits table id d) (all_fit table id ds) fits) j.2 r.3 in
      let all = items_return ds id s j.1 r.1 is (second (has_shape table id d) (all_have table id ds) has) each.1
      (second (data_fits table id d) (all_fit table id ds) fits) j.3 r.4 in
      record {
        found = item one.found all.found;
        means = subst (λ ns. MeanEach table root s ns (item one.found all.found) (items_nestings (item d ds)) 0)
            (sym r.2) (means_more one.means all.means);
        same = both (same_data d one.found) (same_items ds all.found) one.same all.same;
      }

  -- elements, each of its own shape
  pub row_returns : (ds : PlainItems) (ids : List ℕ) (es : EmitNodes) (ns : DocNodes) → each_has table ids ds ≡ true
      → EachReturns ds → each_fits table ids ds ≡ true → written_items table ids ds ≡ Ok es → AreRendered es ns
      → RowReturns table root ids ns ds
  row_returns no_items [] es ns has each fits h r =
      let r : ns ≡ doc.no_nodes = subst (λ es. AreRendered es ns) (sym (same_answer no_emit_nodes es h)) r in
      record {
        found = no_items;
        means = subst (λ ns. MeanRow table root [] ns no_items 0 0) (sym r) means_no_elements;
        same = refl;
      }
  row_returns no_items (id ∷ ids) es ns has each fits h r = absurd cc
  row_returns (item d ds) [] es ns has each fits h r = absurd cc
  row_returns (item d ds) (id ∷ ids) es ns has each fits h r =
      let j = joined_ok emit_node (written table id None d) (written_items table ids ds) es h in
      let r : AreRendered (emit_node j.0 j.1) ns = subst (λ es. AreRendered es ns) j.4 r in
      let has' = first (has_shape table id d) (each_has table ids ds) has in
      let at = shape_there table id d has' in
      let one = each.0 id at.0 None j.0 r.0 at.1 has'
      (first (data_fits table id d) (each_fits table ids ds) fits) j.2 r.3 in
      let all = row_returns ds ids j.1 r.1 (second (has_shape table id d) (each_has table ids ds) has) each.1
      (second (data_fits table id d) (each_fits table ids ds) fits) j.3 r.4 in
      record {
        found = item one.found all.found;
        means = subst (λ ns. MeanRow table root (id ∷ ids) ns (item one.found all.found)
            (items_nestings (item d ds)) 0) (sym r.2) (means_element at.1 one.means all.means);
        same = both (same_data d one.found) (same_items ds all.found) one.same all.same;
      }

  -- keys of one shape, each with its value of another
  pub entries_return : (xs : PlainEntries) (key value : ℕ) (s t : PlainShape) (es : EmitPairs) (ns : DocPairs)
      → shape_at table key ≡ Some s → shape_at table value ≡ Some t → entries_have table key value xs ≡ true
      → PairsReturn xs → entries_fit table key value xs ≡ true → written_entries table key value xs ≡ Ok es
      → PairsAreRendered es ns → EntriesReturn table root s t ns xs
  entries_return no_entries key value s t es ns is is' has each fits h r =
      let r : ns ≡ doc.no_pairs = subst (λ es. PairsAreRendered es ns) (sym (same_answer no_emit_pairs es h)) r in
      record {
        found = no_entries;
        means = subst (λ ns. MeanPairs table root s t ns no_entries 0 0) (sym r) means_no_pairs;
        same = refl;
      }
  entries_return (entry k v xs) key value s t es ns is is' has each fits h r =
      let j = joined_ok pair_before (joined pair_node (written table key None k) (written table value None v))
      (written_entries table key value xs) es h in
      let i = joined_ok pair_node (written table key None k) (written table value None v) j.0 j.2 in
      let made : es ≡ emit_pair i.0 i.1 j.1 = j.4 ∙ ap (λ p. pair_before p j.1) i.4 in
      let r : PairsAreRendered (emit_pair i.0 i.1 j.1) ns = subst (λ es. PairsAreRendered es ns) made r in
      let has' = second (has_shape table key k) (has_shape table value v && entries_have table key value xs) has in
      let fits' = second (data_fits table key k) (data_fits table value v && entries_fit table key value xs) fits in
      let one = each.0 key s None i.0 r.0 is
      (first (has_shape table key k) (has_shape table value v && entries_have table key value xs) has)
      (first (data_fits table key k) (data_fits table value v && entries_fit table key value xs) fits)
      i.2 r.4 in
      let two = each.1 value t None i.1 r.1 is'
      (first (has_shape table value v) (entries_have table key value xs) has')
      (first (data_fits table value v) (entries_fit table key value xs) fits') i.3 r.5 in
      let all = entries_return xs key value s t j.1 r.2 is is'
      (second (has_shape table value v) (entries_have table key value xs) has') each.2
      (second (data_fits table value v) (entries_fit table key value xs) fits') j.3 r.6 in
      record {
        found = entry one.found two.found all.found;
        means = subst (λ ns. MeanPairs table root s t ns (entry one.found two.found all.found)
            (entries_nestings (entry k v xs)) 0) (sym r.3) (means_pair one.means two.means all.means);
        same = both (same_data k one.found) (same_data v two.found && same_entries xs all.found) one.same
            (both (same_data v two.found) (same_entries xs all.found) two.same all.same);
      }

  -- The fields that are left, behind others that were read: each is found in its place.
  pub fields_return : (ds : PlainItems) (strict : Bool) (all done rest : Fields) (front : Slots) (es : EmitPairs)
      (ns : DocPairs) → all ≡ done ++ rest → length front ≡ length done → AreDistinct (names_of all)
      → are_texts (names_of rest) ≡ true → each_has table (numbers_of rest) ds ≡ true → EachReturns ds
      → each_fits table (numbers_of rest) ds ≡ true → written_fields table rest ds ≡ Ok es
      → PairsAreRendered es ns → FieldsReturn table root strict all front rest ns ds
  fields_return no_items strict all done [] front es ns split size apart texts has each fits h r =
      let r : ns ≡ doc.no_pairs = subst (λ es. PairsAreRendered es ns) (sym (same_answer no_emit_pairs es h)) r in
      record {
        found = [];
        means = subst (λ ns. MeanFields table root strict all (front ++ []) ns (front ++ []) 0 0) (sym r)
            means_no_fields;
        size = refl;
        same = refl;
      }
  fields_return no_items strict all done (f ∷ rest) front es ns split size apart texts has each fits h r = absurd cc
  fields_return (item d ds) strict all done [] front es ns split size apart texts has each fits h r = absurd cc
  fields_return (item d ds) strict all done (f ∷ rest) front es ns split size apart texts has each fits h r =
      let j = joined_ok pair_before (made (pair_node (string_node None f.0)) (written table f.1 None d))
      (written_fields table rest ds) es h in
      let m = made_ok (pair_node (string_node None f.0)) (written table f.1 None d) j.0 j.2 in
      let is : es ≡ emit_pair (string_node None f.0) m.0 j.1 = j.4 ∙ ap (λ p. pair_before p j.1) m.2 in
      let r : PairsAreRendered (emit_pair (string_node None f.0) m.0 j.1) ns =
      subst (λ es. PairsAreRendered es ns) is r in
      let has' = first (has_shape table f.1 d) (each_has table (numbers_of rest) ds) has in
      let at = shape_there table f.1 d has' in
      let one = each.0 f.1 at.0 None m.0 r.1 at.1 has'
      (first (data_fits table f.1 d) (each_fits table (numbers_of rest) ds) fits) m.1 r.5 in
      let later = fields_return ds strict all (done ++ f ∷ []) rest (front ++ Some one.found ∷ []) j.1 r.2
      (split ∙ sym (append_assoc done (f ∷ []) rest))
      (length-append front (Some one.found ∷ []) ∙ rw size (sym (length-append done (f ∷ [])))) apart
      (second (is_utf8 f.0) (are_texts (names_of rest)) texts)
      (second (has_shape table f.1 d) (each_has table (numbers_of rest) ds) has) each.1
      (second (data_fits table f.1 d) (each_fits table (numbers_of rest) ds) fits) j.3 r.6 in
      field_returns table root strict all done rest f front at.0 d ds r.0 r.1 r.2 ns split size apart
      (first (is_utf8 f.0) (are_texts (names_of rest)) texts) r.4 r.3 at.1 one later

  -- a row, whosever its elements are
  pub tuple_returns : (d : PlainData) (owner : Owner) (ids : List ℕ) (tag : Option (List ℕ)) (e : EmitNode)
      (n : DocNode) → tuple_has table ids d ≡ true → PartsReturnOf d → parts_fit table ids d ≡ true
      → written_tuple table ids tag d ≡ Ok e → IsRendered e n → Returns (row_shape owner ids) n (is_some tag) d
  tuple_returns (tuple_data ds) owner ids tag e n has each fits h r =
      let m = made_ok (emit_sequence_node tag) (written_items table ids ds) e h in
      let r : IsRendered (emit_sequence_node tag m.0) n = subst (λ e. IsRendered e n) m.2 r in
      let all = row_returns ds ids m.0 r.0 has each fits m.1 r.2 in
      record {
        found = tuple_data all.found;
        means = subst (λ n. Means table root (row_shape owner ids) n (is_some tag)
            (tuple_data all.found) (nestings (tuple_data ds)) 0)
            (sym r.1) (means_node refl refl (means_list (means_row all.means)));
        same = all.same;
      }
  tuple_returns _ owner ids tag e n has each fits h r = absurd cc

  -- fields, whosever they are
  pub struct_returns : (d : PlainData) (strict : Bool) (owner : Owner) (fields : Fields)
      (tag : Option (List ℕ)) (e : EmitNode) (n : DocNode) → AreDistinct (names_of fields)
      → are_texts (names_of fields) ≡ true → struct_has table (numbers_of fields) d ≡ true → PartsReturnOf d
      → parts_fit table (numbers_of fields) d ≡ true → written_struct table fields tag d ≡ Ok e → IsRendered e n
      → Returns (fields_shape strict owner fields) n (is_some tag) d
  struct_returns (struct_data ds) strict owner fields tag e n apart texts has each fits h r =
      let m = made_ok (emit_mapping_node tag) (written_fields table fields ds) e h in
      let r : IsRendered (emit_mapping_node tag m.0) n = subst (λ e. IsRendered e n) m.2 r in
      let all = fields_return ds strict fields [] fields [] m.0 r.0 refl refl apart texts has each fits m.1 r.2 in
      record {
        found = struct_data (items_of all.found);
        means = subst (λ n. Means table root (fields_shape strict owner fields) n (is_some tag)
            (struct_data (items_of all.found)) (nestings (struct_data ds)) 0)
            (sym r.1) (means_node refl refl
            (means_mapping (means_fields all.means (struct_read table fields all.found all.size))));
        same = all.same;
      }
  struct_returns _ strict owner fields tag e n apart texts has each fits h r = absurd cc
