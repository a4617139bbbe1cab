-- What is not written as null by itself stands under an optional as its content, wherever it comes back.
use Rattle.std.specs.Prelude.{Bool, true, false, slice_get}
use Rattle.std.specs.Option.{is_some}
use Rattle.std.proofs.Common.{◌≡◌, ℕ, List, Option, Some, None, Result, Ok, sym, ap, ◌∙◌, subst}
use Rattle.yaml_base.specs.DocTree.{DocNode, first_event}
use Rattle.yaml_base.specs.EmitTree.{EmitNode, emit_scalar_node, emit_sequence_node, emit_mapping_node}
use Rattle.yaml_base.specs.PlainEvent.{PlainScalar}
use Rattle.yaml_base.specs.Renders.{RendersScalar}
use Rattle.yaml_base.specs.declared.emitter.AskedStyle.{AskedStyle}
use Rattle.yaml_shape.specs.HasShape.{has_shape, has_content}
use Rattle.yaml_shape.specs.PlainData.{PlainData, any_data, bool_data, char_data, signed_data, unsigned_data, text_data}
use Rattle.yaml_shape.specs.PlainData.{bytes_data, none_data, some_data, unit_data, newtype_data, seq_data, tuple_data}
use Rattle.yaml_shape.specs.PlainData.{map_data, struct_data, variant_data, ignored_data}
use Rattle.yaml_shape.specs.PlainShape.{PlainShape, PlainVariant, unit_variant, newtype_variant, tuple_variant}
use Rattle.yaml_shape.specs.PlainShape.{struct_variant, shape_at, option_shape, newtype_shape, enum_shape}
use Rattle.yaml_tree.specs.Tree.{Tree, null, boolean, number, string, sequence, mapping, tagged}
use Rattle.yaml_tree.specs.Valid.{is_value}
use Rattle.yaml_meaning.specs.Handing.{is_content}
use Rattle.yaml_meaning.specs.Presence.{is_present}
use Rattle.yaml_meaning.specs.ScalarSorts.{is_local}
use Rattle.yaml_write.specs.LocalTags.{local_tag, value_tag}
use Rattle.yaml_write.specs.Outcomes.{Outcome, made}
use Rattle.yaml_write.specs.Written.{written}
use Rattle.yaml_write.specs.Written.{variant_by}
use Rattle.yaml_write.specs.WrittenParts.{written_content}
use Rattle.yaml_write.specs.WrittenValue.{written_value, written_values, written_pairs}
use Rattle.yaml_round.specs.Fits.{is_written_null}
use Rattle.yaml_shape.specs.Held.{IsHeld}
use Rattle.yaml_round.proofs.LeafPresence.{string_present, bool_present, signed_present, unsigned_present}
use Rattle.yaml_round.proofs.LeafPresence.{char_present, local_present}
use Rattle.yaml_round.proofs.LocalNames.{is_local-local_tag, is_local-value_tag}
use Rattle.yaml_round.proofs.Outcomes.{same_answer, made_ok, tag_of}
use Rattle.yaml_round.proofs.RenderedTrees.{IsRendered}
use Rattle.yaml_round.proofs.ScalarLeaves.{signed_within, unsigned_within, number_within}
use Rattle.yaml_round.proofs.ShapesOfData.{signed_is, unsigned_is, option_is, newtype_is, variant_is, passes_there}
use Rattle.yaml_round.proofs.ShapesOfData.{shape_there}
use Rattle.yaml_round.proofs.TagsWritten.{data_has_tag, tuple_has_tag, struct_has_tag}
use Rattle.yaml_round.proofs.ValuesReturn.{value_has_tag}

-- a scalar, where each that comes back does
scalar_stands : (tag : Option (List ℕ)) (text : List ℕ) (style : AskedStyle) (e : EmitNode) (n : DocNode)
    → ◌≡◌ {A = Outcome} (Ok (emit_scalar_node tag text style)) (Ok e) → IsRendered e n
    → ((w : PlainScalar) → RendersScalar tag text style w → is_present (is_some tag) w ≡ true)
    → is_content (is_some tag) (first_event n) ≡ true
scalar_stands tag text style e n h r present =
    let r : IsRendered (emit_scalar_node tag text style) n =
    subst (λ e. IsRendered e n) (sym (same_answer (emit_scalar_node tag text style) e h)) r in
    ap (λ n. is_content (is_some tag) (first_event n)) r.1 ∙ present r.0 r.2

-- a node with a local tag of its own
local_stands : (e : EmitNode) (n : DocNode) (own : List ℕ) → IsRendered e n → tag_of e ≡ Some own
    → is_local (Some own) ≡ true → is_content false (first_event n) ≡ true
local_stands (emit_scalar_node tag text style) n own r is local =
    ap (λ n. is_content false (first_event n)) r.1 ∙ local_present own r.0 (r.2.same_tag ∙ is) local
local_stands (emit_sequence_node tag es) n own r is local = ap (λ n. is_content false (first_event n)) r.1
local_stands (emit_mapping_node tag es) n own r is local = ap (λ n. is_content false (first_event n)) r.1

-- a collection
sequence_stands : (taken : Bool) (tag : Option (List ℕ)) (r : Result _ _) (e : EmitNode) (n : DocNode)
    → made (emit_sequence_node tag) r ≡ Ok e → IsRendered e n
    → is_content taken (first_event n) ≡ true
sequence_stands taken tag r e n h back =
    let m = made_ok (emit_sequence_node tag) r e h in
    let back : IsRendered (emit_sequence_node tag m.0) n = subst (λ e. IsRendered e n) m.2 back in
    ap (λ n. is_content taken (first_event n)) back.1

mapping_stands : (taken : Bool) (tag : Option (List ℕ)) (r : Result _ _) (e : EmitNode) (n : DocNode)
    → made (emit_mapping_node tag) r ≡ Ok e → IsRendered e n
    → is_content taken (first_event n) ≡ true
mapping_stands taken tag r e n h back =
    let m = made_ok (emit_mapping_node tag) r e h in
    let back : IsRendered (emit_mapping_node tag m.0) n = subst (λ e. IsRendered e n) m.2 back in
    ap (λ n. is_content taken (first_event n)) back.1

-- a value
value_stands : (tag : Option (List ℕ)) (t : Tree) (e : EmitNode) (n : DocNode) → is_value t ≡ true
    → is_written_null (written_value None t) ≡ false → written_value tag t ≡ Ok e → IsRendered e n
    → is_content (is_some tag) (first_event n) ≡ true
value_stands tag null e n is some h r = absurd cc
value_stands tag (boolean b) e n is some h r = scalar_stands tag _ _ e n h r (λ w s. bool_present tag w b s)
value_stands tag (number z) e n is some h r =
    let range = number_within z is in
    scalar_stands tag _ _ e n h r (λ w s. signed_present tag w z range.0 range.1 s)
value_stands tag (string text) e n is some h r = scalar_stands tag _ _ e n h r (λ w s. string_present tag w text s)
value_stands tag (sequence ts) e n is some h r = sequence_stands (is_some tag) tag (written_values ts) e n h r
value_stands tag (mapping ps) e n is some h r = mapping_stands (is_some tag) tag (written_pairs ps) e n h r
value_stands None (tagged s t) e n is some h r =
    local_stands e n (value_tag s) r (value_has_tag (value_tag s) t e h) (is_local-value_tag s)
value_stands (Some own) (tagged s t) e n is some h r = absurd cc

module _ (table : List PlainShape) where
  -- a variant: a string, or what has a tag of its own
  variant_stands : (tag : Option (List ℕ)) (name : List ℕ) (content : PlainVariant) (d : PlainData) (e : EmitNode)
      (n : DocNode) → variant_by (Some (name, content)) tag (written_content table d) ≡ Ok e → IsRendered e n
      → is_content (is_some tag) (first_event n) ≡ true
  variant_stands tag name unit_variant d e n h r =
      scalar_stands tag _ _ e n h r (λ w s. string_present tag w name s)
  variant_stands None name (newtype_variant inner) d e n h r =
      local_stands e n (local_tag name) r (data_has_tag table d inner (local_tag name) e h) (is_local-local_tag name)
  variant_stands None name (tuple_variant ids) d e n h r =
      local_stands e n (local_tag name) r (tuple_has_tag table d ids (local_tag name) e h) (is_local-local_tag name)
  variant_stands None name (struct_variant strict fields) d e n h r =
      local_stands e n (local_tag name) r (struct_has_tag table d fields (local_tag name) e h)
      (is_local-local_tag name)
  variant_stands (Some own) name (newtype_variant inner) d e n h r = absurd cc
  variant_stands (Some own) name (tuple_variant ids) d e n h r = absurd cc
  variant_stands (Some own) name (struct_variant strict fields) d e n h r = absurd cc

  -- data of a shape
  pub data_stands : (d : PlainData) (id : ℕ) (s : PlainShape) (tag : Option (List ℕ)) (e : EmitNode) (n : DocNode)
      → shape_at table id ≡ Some s → has_shape table id d ≡ true → IsHeld d
      → is_written_null (written table id None d) ≡ false → written table id tag d ≡ Ok e → IsRendered e n
      → is_content (is_some tag) (first_event n) ≡ true
  data_stands (any_data v) id s tag e n is has held some h r = value_stands tag v e n held some h r
  data_stands (bool_data b) id s tag e n is has held some h r =
      scalar_stands tag _ _ e n h r (λ w k. bool_present tag w b k)
  data_stands (char_data c) id s tag e n is has held some h r =
      scalar_stands tag _ _ e n h r (λ w k. char_present tag w _ k)
  data_stands (signed_data z) id s tag e n is has held some h r =
      let i = signed_is z s (rw is at has) in
      let range = signed_within i.0 z i.2 in
      scalar_stands tag _ _ e n h r (λ w k. signed_present tag w z range.0 range.1 k)
  data_stands (unsigned_data u) id s tag e n is has held some h r =
      let i = unsigned_is u s (rw is at has) in
      scalar_stands tag _ _ e n h r (λ w k. unsigned_present tag w u (unsigned_within i.0 u i.2) k)
  data_stands (text_data lent text) id s tag e n is has held some h r =
      scalar_stands tag _ _ e n h r (λ w k. string_present tag w text k)
  data_stands (bytes_data bytes) id s tag e n is has held some h r = absurd cc
  data_stands none_data id s tag e n is has held some h r = absurd cc
  data_stands (some_data d) id s tag e n is has held some h r =
      let o = option_is (λ c. has_shape table c d) s (rw is at has) in
      let here : shape_at table id ≡ Some (option_shape o.0) = is ∙ ap (λ s. Some s) o.1 in
      let at = shape_there table o.0 d o.2 in
      data_stands d o.0 at.0 tag e n at.1 o.2 held (rw here at some) (rw here at h) r
  data_stands unit_data id s tag e n is has held some h r = absurd cc
  data_stands (newtype_data d) id s tag e n is has held some h r =
      let o = newtype_is (λ c. has_shape table c d) s (rw is at has) in
      let here : shape_at table id ≡ Some (newtype_shape o.0 o.1) = is ∙ ap (λ s. Some s) o.2 in
      let at = shape_there table o.1 d o.3 in
      data_stands d o.1 at.0 tag e n at.1 o.3 held (rw here at some) (rw here at h) r
  data_stands (seq_data ds) id s tag e n is has held some h r = sequence_stands (is_some tag) tag _ e n h r
  data_stands (tuple_data ds) id s tag e n is has held some h r = sequence_stands (is_some tag) tag _ e n h r
  data_stands (map_data es) id s tag e n is has held some h r = mapping_stands (is_some tag) tag _ e n h r
  data_stands (struct_data ds) id s tag e n is has held some h r = mapping_stands (is_some tag) tag _ e n h r
  data_stands (variant_data place d) id s tag e n is has held some h r =
      let v = variant_is place (has_content table d) s (rw is at has) in
      let here : shape_at table id ≡ Some (enum_shape v.0 v.1) = is ∙ ap (λ s. Some s) v.2 in
      let x = passes_there (slice_get v.1 place) (λ x. has_content table d x.1) v.3 in
      variant_stands tag x.0.0 x.0.1 d e n (rw (here, x.1) at h) r
  data_stands ignored_data id s tag e n is has held some h r = absurd cc
