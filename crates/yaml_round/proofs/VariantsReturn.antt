-- A variant means itself, with its content under the tag that names it.
use Rattle.std.specs.Prelude.{Bool, true, false, option_and_then, nat_eq}
use Rattle.std.specs.Option.{is_some}
use Rattle.std.specs.Str.{is_utf8}
use Rattle.std.proofs.Common.{◌≡◌, ℕ, List, Option, Some, None, Ok}
use Rattle.std.proofs.Common.{refl, sym, ap, ◌∙◌, subst}
use Rattle.yaml_base.specs.AskedStyles.{asked_style}
use Rattle.yaml_base.specs.DocTree.{DocNode}
use Rattle.yaml_base.specs.EmitTree.{EmitNode}
use Rattle.yaml_base.specs.LocalName.{local_name}
use Rattle.yaml_shape.specs.HasShape.{tuple_has, struct_has, has_content}
use Rattle.yaml_shape.specs.PlainData.{PlainData}
use Rattle.yaml_shape.specs.PlainData.{unit_data}
use Rattle.yaml_shape.specs.PlainData.{variant_data}
use Rattle.yaml_shape.specs.PlainShape.{PlainShape, row_shape, fields_shape, enum_shape, Owner, of_variant}
use Rattle.yaml_shape.specs.PlainShape.{content_shape, PlainVariant, unit_variant, newtype_variant, tuple_variant}
use Rattle.yaml_shape.specs.PlainShape.{struct_variant}
use Rattle.yaml_shape.specs.Validity.{IsDistinctInside, AreDistinct}
use Rattle.yaml_shape.specs.Validity.{names_of, numbers_of}
use Rattle.yaml_meaning.specs.Fields.{Fields}
use Rattle.yaml_meaning.specs.Handing.{handed_variant, enum_by}
use Rattle.yaml_meaning.specs.Meaning.{means_node, means_variant}
use Rattle.yaml_meaning.specs.Variants.{Variants, variant_named}
use Rattle.yaml_write.specs.LocalTags.{local_tag}
use Rattle.yaml_write.specs.Written.{written_tuple, written_struct}
use Rattle.yaml_write.specs.Written as writing
use Rattle.yaml_write.specs.WrittenParts.{written_content}
use Rattle.yaml_round.specs.Fits.{data_fits, parts_fit}
use Rattle.yaml_round.specs.Fits.{is_variant_name, variant_passes}
use Rattle.yaml_shape.specs.Held.{is_named_content, are_texts}
use Rattle.yaml_round.specs.SameOrder.{same_data}
use Rattle.yaml_round.proofs.LocalNames.{local_name-variant}
use Rattle.yaml_round.proofs.Outcomes.{tag_of, rendered_tag}
use Rattle.yaml_round.proofs.RenderedTrees.{IsRendered}
use Rattle.yaml_round.proofs.SameOrders.{both, first, second}
use Rattle.yaml_round.proofs.ScalarLeaves.{variant_leaf}
use Rattle.yaml_round.proofs.ShapesOfData.{shape_there}
use Rattle.yaml_round.proofs.ShapesOfData.{unit_data_is}
use Rattle.yaml_round.proofs.TagsWritten.{data_has_tag, tuple_has_tag, struct_has_tag}
use Rattle.yaml_round.proofs.DataFound.{DataReturns}
use Rattle.yaml_round.proofs.DataFound.{same_number, InnerReturns}
use Rattle.yaml_round.proofs.LeavesReturn.{leaf, name_as_is}

module _ (table : List PlainShape) (root : DocNode) where
  abbrev Returns : PlainShape → DocNode → (taken : Bool) → PlainData → Type 0
  Returns = DataReturns table root

  -- the content of a variant, under the tag that names the variant
  content_returns : (ename : List ℕ) (variants : Variants) (place : ℕ) (name : List ℕ) (content : PlainVariant)
      (t : PlainShape) (e : EmitNode) (n : DocNode) (d : PlainData)
      → variant_named variants name ≡ Some (place, content) → is_utf8 name ≡ true → is_variant_name name ≡ true
      → content_shape table ename name content ≡ Some t → tag_of e ≡ Some (local_tag name) → IsRendered e n
      → Returns t n true d → Returns (enum_shape ename variants) n false (variant_data place d)
  content_returns ename variants place name content t e n d found utf8 named at tagged r one =
      let name_is = ap (option_and_then local_name) (rendered_tag e n r ∙ tagged)
      ∙ local_name-variant name named utf8 in
      record {
        found = variant_data place one.found;
        means = means_node refl (ap (enum_by ename variants) name_is
            ∙ ap (handed_variant (record { name = ename; variant = name })) found) (means_variant at one.means);
        same = both (nat_eq place place) (same_data d one.found) (same_number place) one.same;
      }

  -- what is known of the content of a variant: of a row, and of fields
  abbrev pub TupleReturns : PlainData → Type 0
  TupleReturns d = (owner : Owner) (ids : List ℕ) (tag : Option (List ℕ)) (e : EmitNode) (n : DocNode)
      → tuple_has table ids d ≡ true → parts_fit table ids d ≡ true → written_tuple table ids tag d ≡ Ok e
      → IsRendered e n → Returns (row_shape owner ids) n (is_some tag) d

  abbrev pub StructReturns : PlainData → Type 0
  StructReturns d = (strict : Bool) (owner : Owner) (fields : Fields) (tag : Option (List ℕ)) (e : EmitNode)
      (n : DocNode) → AreDistinct (names_of fields) → are_texts (names_of fields) ≡ true
      → struct_has table (numbers_of fields) d ≡ true → parts_fit table (numbers_of fields) d ≡ true
      → written_struct table fields tag d ≡ Ok e → IsRendered e n
      → Returns (fields_shape strict owner fields) n (is_some tag) d

  -- a variant
  pub variant_returns : (d : PlainData) (ename : List ℕ) (variants : Variants) (place : ℕ) (name : List ℕ)
      (content : PlainVariant) (tag : Option (List ℕ)) (e : EmitNode) (n : DocNode)
      → InnerReturns table root d → TupleReturns d → StructReturns d → variant_named variants name ≡ Some
      (place, content)
      → is_utf8 name ≡ true
      → is_named_content content ≡ true → IsDistinctInside content → has_content table d content ≡ true
      → variant_passes (λ inner. data_fits table inner d) (λ ids. parts_fit table ids d) (Some (name, content))
      ≡ true
      → writing.variant_by (Some (name, content)) tag (written_content table d) ≡ Ok e → IsRendered e n
      → Returns (enum_shape ename variants) n (is_some tag) (variant_data place d)
  variant_returns d ename variants place name unit_variant tag e n inner_of tuple_of struct_of found utf8
      inside apart has fits h r =
      let m = leaf table root (enum_shape ename variants) tag _ _ e n (λ w. variant_data place unit_data) refl
      (λ w k. name_as_is ename variants tag name w fits k.same_tag k.same_text)
      (λ w k. variant_leaf tag w ename variants name (asked_style name) utf8 k ∙ rw found refl) h r in
      subst (λ d. Returns (enum_shape ename variants) n (is_some tag) (variant_data place d))
      (sym (unit_data_is d has))
      (record {
        found = variant_data place unit_data;
        means = m.1;
        same = both (nat_eq place place) true (same_number place) refl;
      })
  variant_returns d ename variants place name (newtype_variant inner) None e n inner_of tuple_of struct_of found utf8
      inside apart has fits h r =
      let at = shape_there table inner d has in
      let one = inner_of inner at.0 (Some (local_tag name)) e n at.1 has
      (second (is_variant_name name) (data_fits table inner d) fits) h r in
      content_returns ename variants place name (newtype_variant inner) at.0 e n d found utf8
      (first (is_variant_name name) (data_fits table inner d) fits) at.1
      (data_has_tag table d inner (local_tag name) e h) r one
  variant_returns d ename variants place name (tuple_variant ids) None e n inner_of tuple_of struct_of found utf8
      inside apart has fits h r =
      let one = tuple_of (of_variant ename name) ids (Some (local_tag name)) e n has
      (second (is_variant_name name) (parts_fit table ids d) fits) h r in
      content_returns ename variants place name (tuple_variant ids) (row_shape (of_variant ename name) ids) e n d found
      utf8 (first (is_variant_name name) (parts_fit table ids d) fits) refl
      (tuple_has_tag table d ids (local_tag name) e h) r one
  variant_returns d ename variants place name (struct_variant strict fields) None e n inner_of tuple_of struct_of
      found utf8 inside apart has fits h r =
      let one = struct_of strict (of_variant ename name) fields (Some (local_tag name)) e n apart inside has
      (second (is_variant_name name) (parts_fit table (numbers_of fields) d) fits) h r in
      content_returns ename variants place name (struct_variant strict fields)
      (fields_shape strict (of_variant ename name) fields) e n d found utf8
      (first (is_variant_name name) (parts_fit table (numbers_of fields) d) fits) refl
      (struct_has_tag table d fields (local_tag name) e h) r one
  variant_returns d ename variants place name (newtype_variant inner) (Some own) e n inner_of tuple_of struct_of
      found utf8 inside apart has fits h r = absurd cc
  variant_returns d ename variants place name (tuple_variant ids) (Some own) e n inner_of tuple_of struct_of
      found utf8 inside apart has fits h r = absurd cc
  variant_returns d ename variants place name (struct_variant strict fields) (Some own) e n inner_of tuple_of
      struct_of found utf8 inside apart has fits h r = absurd cc
