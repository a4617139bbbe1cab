-- What is written as null where it has no tag, by what it is.
use Rattle.std.specs.Prelude.{Bool, true, false, if◌then◌else◌, bytes_eq, codes, decimal, slice_get}
use Rattle.std.specs.Fmt.{signed_decimal}
use Rattle.std.proofs.Common.{◌≡◌, ℕ, ℤ, List, Option, Some, None, Result, Ok, Err, refl, sym, ap, ◌∙◌}
use Rattle.std.proofs.lemmas.Option.{none-some}
use Rattle.std.proofs.lemmas.Slice.Eq.{bytes_eq-Decides}
use Rattle.yaml_base.specs.EmitTree.{EmitNode, EmitNodes, EmitPairs, emit_scalar_node, emit_sequence_node}
use Rattle.yaml_base.specs.EmitTree.{emit_mapping_node}
use Rattle.yaml_base.specs.Kinds.{is_null_text}
use Rattle.yaml_base.specs.declared.emitter.AskedStyle.TheVariants.{Any, Literal, SingleQuoted}
use Rattle.yaml_base.specs.declared.error.Cause.{Cause}
use Rattle.yaml_shape.specs.HasShape.{has_shape, has_content}
use Rattle.yaml_shape.specs.Held.{IsHeld}
use Rattle.yaml_shape.specs.PlainData.{PlainData, any_data, bool_data, char_data, signed_data, unsigned_data, text_data}
use Rattle.yaml_shape.specs.PlainData.{bytes_data, none_data, some_data, unit_data, newtype_data, seq_data, tuple_data}
use Rattle.yaml_shape.specs.PlainData.{map_data, struct_data, variant_data, ignored_data}
use Rattle.yaml_shape.specs.PlainShape.{PlainShape, PlainVariant, unit_variant, newtype_variant, tuple_variant}
use Rattle.yaml_shape.specs.PlainShape.{struct_variant, shape_at, option_shape, newtype_shape, enum_shape}
use Rattle.yaml_tree.specs.Tree.{Tree, null, boolean, number, string, sequence, mapping, tagged}
use Rattle.yaml_tree.specs.Valid.{is_value}
use Rattle.yaml_write.specs.LocalTags.{local_tag, value_tag}
use Rattle.yaml_write.specs.Outcomes.{Outcome, made, string_node}
use Rattle.yaml_write.specs.Written.{written, variant_by}
use Rattle.yaml_write.specs.WrittenParts.{written_content}
use Rattle.yaml_write.specs.WrittenValue.{written_value, written_values, written_pairs}
use Rattle.yaml_round.specs.Fits.{is_null_node, is_written_null}
use Rattle.yaml_round.specs.Survives.{is_null}
use Rattle.yaml_round.proofs.Decimals.{unsigned_of-decimal, integer_of-signed_decimal}
use Rattle.yaml_round.proofs.LeafPresence.{integer_not_null, unsigned_not_null}
use Rattle.yaml_round.proofs.Outcomes.{tag_of}
use Rattle.yaml_round.proofs.ScalarLeaves.{signed_within, unsigned_within, number_within}
use Rattle.yaml_round.proofs.ShapesOfData.{signed_is, unsigned_is, option_is, newtype_is, variant_is, passes_there}
use Rattle.yaml_round.proofs.TagsWritten.{data_has_tag, tuple_has_tag, struct_has_tag}
use Rattle.yaml_round.proofs.ValuesReturn.{value_has_tag}

-- a text that is not null is not the word that is written
not_word : (text : List ℕ) → is_null_text text ≡ false → bytes_eq text (codes "null") ≡ false
not_word text h = by (bytes_eq text (codes "null")) refl
  where
    by : (b : Bool) → bytes_eq text (codes "null") ≡ b → b ≡ false
    by true e =
        let same = (bytes_eq-Decides text (codes "null")).0 e in
        let bad : is_null_text (codes "null") ≡ false = sym (ap is_null_text same) ∙ h in
        absurd cc
    by false e = refl

-- a string is never asked plain
asked_null : (text : List ℕ) (b c : Bool)
    → is_null_node (emit_scalar_node None text (if b then Literal else (if c then Any else SingleQuoted))) ≡ false
asked_null text true c = refl
asked_null text false true = refl
asked_null text false false = refl

string_null : (text : List ℕ) → is_null_node (string_node None text) ≡ false
string_null text = asked_null text _ _

-- a sequence and a mapping
sequence_null : (r : Result EmitNodes Cause) → is_written_null (made (emit_sequence_node None) r) ≡ false
sequence_null (Ok es) = refl
sequence_null (Err c) = refl

mapping_null : (r : Result EmitPairs Cause) → is_written_null (made (emit_mapping_node None) r) ≡ false
mapping_null (Ok es) = refl
mapping_null (Err c) = refl

-- what has a tag
node_null : (own : List ℕ) (e : EmitNode) → tag_of e ≡ Some own → is_null_node e ≡ false
node_null own (emit_scalar_node None text style) h = absurd (none-some own h)
node_null own (emit_scalar_node (Some tag) text style) h = refl
node_null own (emit_sequence_node tag es) h = refl
node_null own (emit_mapping_node tag es) h = refl

tagged_null : (own : List ℕ) (o : Outcome) → ((e : EmitNode) → o ≡ Ok e → tag_of e ≡ Some own)
    → is_written_null o ≡ false
tagged_null own (Ok e) h = node_null own e (h e refl)
tagged_null own (Err c) h = refl

-- a value
value_null : (v : Tree) → is_value v ≡ true → is_written_null (written_value None v) ≡ is_null (any_data v)
value_null null held = refl
value_null (boolean true) held = refl
value_null (boolean false) held = refl
value_null (number z) held =
    let range = number_within z held in
    not_word (signed_decimal z)
    (integer_not_null (signed_decimal z) z (integer_of-signed_decimal z range.0 range.1))
value_null (string text) held = string_null text
value_null (sequence ts) held = sequence_null (written_values ts)
value_null (mapping ps) held = mapping_null (written_pairs ps)
value_null (tagged s t) held =
    tagged_null (value_tag s) (written_value (Some (value_tag s)) t) (λ e h. value_has_tag (value_tag s) t e h)

module _ (t : List PlainShape) where
  -- a variant
  variant_null : (name : List ℕ) (content : PlainVariant) (d : PlainData)
      → is_written_null (variant_by (Some (name, content)) None (written_content t d)) ≡ false
  variant_null name unit_variant d = string_null name
  variant_null name (newtype_variant inner) d =
      tagged_null (local_tag name) (written t inner (Some (local_tag name)) d)
      (λ e h. data_has_tag t d inner (local_tag name) e h)
  variant_null name (tuple_variant ids) d =
      tagged_null (local_tag name) _ (λ e h. tuple_has_tag t d ids (local_tag name) e h)
  variant_null name (struct_variant strict fields) d =
      tagged_null (local_tag name) _ (λ e h. struct_has_tag t d fields (local_tag name) e h)

  -- data of a shape
  pub data_null : (d : PlainData) (id : ℕ) → has_shape t id d ≡ true → IsHeld d
      → is_written_null (written t id None d) ≡ is_null d
  data_null (any_data v) id has held = value_null v held
  data_null (bool_data true) id has held = refl
  data_null (bool_data false) id has held = refl
  data_null (char_data c) id has held = refl
  data_null (signed_data z) id has held =
      let s = passes_there (shape_at t id) _ has in
      let i = signed_is z s.0 s.2 in
      let range = signed_within i.0 z i.2 in
      not_word (signed_decimal z)
      (integer_not_null (signed_decimal z) z (integer_of-signed_decimal z range.0 range.1))
  data_null (unsigned_data n) id has held =
      let s = passes_there (shape_at t id) _ has in
      let i = unsigned_is n s.0 s.2 in
      not_word (decimal n)
      (unsigned_not_null (decimal n) n (unsigned_of-decimal n (unsigned_within i.0 n i.2)))
  data_null (text_data lent text) id has held = string_null text
  data_null (bytes_data bytes) id has held = refl
  data_null none_data id has held = refl
  data_null (some_data d) id has held =
      let s = passes_there (shape_at t id) _ has in
      let o = option_is (λ c. has_shape t c d) s.0 s.2 in
      rw (s.1, o.1) (data_null d o.0 o.2 held)
  data_null unit_data id has held = refl
  data_null (newtype_data d) id has held =
      let s = passes_there (shape_at t id) _ has in
      let o = newtype_is (λ c. has_shape t c d) s.0 s.2 in
      rw (s.1, o.2) (data_null d o.1 o.3 held)
  data_null (seq_data ds) id has held = sequence_null _
  data_null (tuple_data ds) id has held = sequence_null _
  data_null (map_data es) id has held = mapping_null _
  data_null (struct_data ds) id has held = mapping_null _
  data_null (variant_data place d) id has held =
      let s = passes_there (shape_at t id) _ has in
      let v = variant_is place (has_content t d) s.0 s.2 in
      let x = passes_there (slice_get v.1 place) (λ x. has_content t d x.1) v.3 in
      rw (s.1, v.2, x.1) (variant_null x.0.0 x.0.1 d)
  data_null ignored_data id has held = refl
