-- What data is written as may be printed.
use Rattle.std.proofs.Common.{◌≡◌, ℕ, ◌≤◌, true, false, sym, ap, ◌∙◌, subst, arith, List, [], ◌∷◌, ◌++◌, Option}
use Rattle.std.proofs.Common.{None, Some, Ok}
use Rattle.std.proofs.lemmas.Bool.{and_parts}
use Rattle.std.proofs.lemmas.Str.{IsUtf8-from_is_utf8}
use Rattle.std.specs.Char.{encode_utf8}
use Rattle.std.specs.Fmt.{signed_decimal}
use Rattle.std.specs.Prelude.{decimal, slice_get}
use Rattle.std.specs.Str.{is_utf8}
use Rattle.yaml_base.specs.EmitTree.{EmitNode, emit_scalar_node, emit_sequence_node, emit_mapping_node}
use Rattle.yaml_base.specs.EmitTree.{EmitNodes, emit_node, EmitPairs, emit_pair, emit_node_events, emit_nodes_events}
use Rattle.yaml_base.specs.EmitTree.{emit_pairs_events}
use Rattle.yaml_base.specs.declared.emitter.AskedStyle.TheVariants.{SingleQuoted}
use Rattle.yaml_emit.specs.StreamTexts.{is_simple_key}
use Rattle.yaml_shape.specs.Held.{IsHeld, AreHeld, EntriesAreHeld, are_texts, is_table}
use Rattle.yaml_shape.specs.PlainData.{PlainData, any_data, bool_data, char_data, signed_data, unsigned_data, text_data}
use Rattle.yaml_shape.specs.PlainData.{bytes_data, none_data, some_data, unit_data, newtype_data, seq_data, tuple_data}
use Rattle.yaml_shape.specs.PlainData.{map_data, struct_data, variant_data, ignored_data}
use Rattle.yaml_shape.specs.PlainData.{PlainItems, no_items as no_items_here, item, PlainEntries, no_entries, entry}
use Rattle.yaml_shape.specs.PlainShape.{PlainShape, PlainVariant, unit_variant, newtype_variant, tuple_variant}
use Rattle.yaml_shape.specs.PlainShape.{struct_variant, shape_at}
use Rattle.yaml_shape.specs.Validity.{names_of}
use Rattle.yaml_write.specs.InShape.{inner_shape, element_shape, item_shapes, key_shape, value_shape, named_fields}
use Rattle.yaml_write.specs.InShape.{named_variants}
use Rattle.yaml_write.specs.LocalTags.{local_tag}
use Rattle.yaml_write.specs.Outcomes.{joined, made, null_node, plain_node, string_node}
use Rattle.yaml_write.specs.Written.{written, written_tuple, written_struct, written_elements, written_items}
use Rattle.yaml_write.specs.Written.{written_entries, written_fields, variant_by}
use Rattle.yaml_write.specs.WrittenParts.{written_content}
use Rattle.yaml_write.specs.WrittenValue.{pair_before, pair_node, truth_text}
use Rattle.yaml_printed.specs.Nestings.{nestings, items_nestings, entries_nestings}
use Rattle.yaml_printed.specs.Printable.{ArePrintable, PairsPrintable, no_items, an_item, no_pairs, a_pair}
use Rattle.yaml_printed.proofs.Digits.{decimal_simple, signed_simple}
use Rattle.yaml_printed.proofs.Outcomes.{same_answer, made_ok, joined_ok}
use Rattle.yaml_printed.proofs.WrittenLeaves.{Shown, Whole, WholeItems, WholePairs, whole_parts, leaf_shown, word_shown}
use Rattle.yaml_printed.proofs.WrittenLeaves.{null_word, truth_word, string_shown, character_shown, sequence_shown}
use Rattle.yaml_printed.proofs.WrittenLeaves.{mapping_shown}
use Rattle.yaml_printed.proofs.WrittenNames.{field_names, is_fine, is_named, variant_names}
use Rattle.yaml_printed.proofs.WrittenTags.{IsText, no_text, a_text, local_is_text}
use Rattle.yaml_printed.proofs.WrittenValues.{value_shown}

module _ (t : List PlainShape) where
  -- a variant, where this is known of its content
  variant_shown : (d : PlainData) (o : Option (List ℕ × PlainVariant)) (n : ℕ) {tag : Option (List ℕ)} (e : EmitNode)
      → is_fine is_named o ≡ true → IsText tag → variant_by o tag (written_content t d) ≡ Ok e → Whole e
      → ((id : ℕ) (own : Option (List ℕ)) → IsText own → written t id own d ≡ Ok e → Shown n e)
      → ((ids : List ℕ) (own : Option (List ℕ)) → IsText own → written_tuple t ids own d ≡ Ok e → Shown n e)
      → ((fields : List (List ℕ × ℕ)) (own : Option (List ℕ)) → are_texts (names_of fields) ≡ true → IsText own
      → written_struct t fields own d ≡ Ok e → Shown n e)
      → Shown n e
  variant_shown d None n {tag} e named f h w newtype tuple struct =
      leaf_shown (null_node tag) (word_shown n f null_word) h w
  variant_shown d (Some (name, unit_variant)) n {tag} e named f h w newtype tuple struct =
      leaf_shown (string_node tag name)
      (string_shown n f name (IsUtf8-from_is_utf8 name (and_parts (is_utf8 name) true named).0)) h w
  variant_shown d (Some (name, newtype_variant inner)) n e named no_text h w newtype tuple struct =
      newtype inner (Some (local_tag name))
      (local_is_text name (IsUtf8-from_is_utf8 name (and_parts (is_utf8 name) true named).0)) h
  variant_shown d (Some (name, tuple_variant ids)) n e named no_text h w newtype tuple struct =
      tuple ids (Some (local_tag name))
      (local_is_text name (IsUtf8-from_is_utf8 name (and_parts (is_utf8 name) true named).0)) h
  variant_shown d (Some (name, struct_variant strict fields)) n e named no_text h w newtype tuple struct =
      let p = and_parts (is_utf8 name) (are_texts (names_of fields)) named in
      struct fields (Some (local_tag name)) p.1 (local_is_text name (IsUtf8-from_is_utf8 name p.0)) h
  variant_shown d (Some (name, newtype_variant inner)) n e named (a_text u) h w newtype tuple struct = absurd cc
  variant_shown d (Some (name, tuple_variant ids)) n e named (a_text u) h w newtype tuple struct = absurd cc
  variant_shown d (Some (name, struct_variant strict fields)) n e named (a_text u) h w newtype tuple struct = absurd cc

  module _ (named : is_table t ≡ true) where
    mutual
      pub data_shown : (d : PlainData) (id n : ℕ) {tag : Option (List ℕ)} (e : EmitNode) → IsText tag → IsHeld d
          → nestings d ≤ n → written t id tag d ≡ Ok e → Whole e → Shown n e
      data_shown (any_data v) id n e f held deep h w = value_shown v n e f held deep h w
      data_shown (bool_data b) id n {tag} e f held deep h w =
          leaf_shown (plain_node tag (truth_text b)) (word_shown n f (truth_word b)) h w
      data_shown (char_data c) id n {tag} e f held deep h w =
          leaf_shown (emit_scalar_node tag (encode_utf8 c) SingleQuoted) (character_shown n f c held) h w
      data_shown (signed_data z) id n {tag} e f held deep h w =
          leaf_shown (plain_node tag (signed_decimal z)) (word_shown n f (signed_simple z)) h w
      data_shown (unsigned_data k) id n {tag} e f held deep h w =
          leaf_shown (plain_node tag (decimal k)) (word_shown n f (decimal_simple k)) h w
      data_shown (text_data lent s) id n {tag} e f held deep h w =
          leaf_shown (string_node tag s) (string_shown n f s (IsUtf8-from_is_utf8 s held)) h w
      data_shown (bytes_data bytes) id n e f held deep h w = absurd cc
      data_shown none_data id n {tag} e f held deep h w = leaf_shown (null_node tag) (word_shown n f null_word) h w
      data_shown (some_data d) id n e f held deep h w =
          data_shown d (inner_shape (shape_at t id)) n e f held deep h w
      data_shown unit_data id n {tag} e f held deep h w = leaf_shown (null_node tag) (word_shown n f null_word) h w
      data_shown (newtype_data d) id n e f held deep h w =
          data_shown d (inner_shape (shape_at t id)) n e f held (omega (arith, deep)) h w
      data_shown (seq_data ds) id n {tag} e f held deep h w =
          let element = element_shape (shape_at t id) in
          let m = made_ok (emit_sequence_node tag) (written_elements t element ds) e h in
          sequence_shown n (items_nestings ds) f m.0 e m.2 w deep
          (λ k d v. elements_shown ds element k m.0 held d m.1 v)
      data_shown (tuple_data ds) id n {tag} e f held deep h w =
          let ids = item_shapes (shape_at t id) in
          let m = made_ok (emit_sequence_node tag) (written_items t ids ds) e h in
          sequence_shown n (items_nestings ds) f m.0 e m.2 w deep (λ k d v. items_shown ds ids k m.0 held d m.1 v)
      data_shown (map_data es) id n {tag} e f held deep h w =
          let key = key_shape (shape_at t id) in
          let value = value_shape (shape_at t id) in
          let m = made_ok (emit_mapping_node tag) (written_entries t key value es) e h in
          mapping_shown n (entries_nestings es) f m.0 e m.2 w deep
          (λ k d v. entries_shown es key value k m.0 held d m.1 v)
      data_shown (struct_data ds) id n {tag} e f held deep h w =
          let fields = named_fields (shape_at t id) in
          let m = made_ok (emit_mapping_node tag) (written_fields t fields ds) e h in
          mapping_shown n (items_nestings ds) f m.0 e m.2 w deep
          (λ k d v. fields_shown ds fields k m.0 (field_names t id named) held d m.1 v)
      data_shown (variant_data place d) id n e f held deep h w =
          variant_shown d (slice_get (named_variants (shape_at t id)) place) n e (variant_names t id place named) f h w
          (λ id own g h. data_shown d id n e g held deep h w) (λ ids own g h. tuple_shown d ids n e g held deep h w)
          (λ fields own texts g h. struct_shown d fields n e texts g held deep h w)
      data_shown ignored_data id n {tag} e f held deep h w = leaf_shown (null_node tag) (word_shown n f null_word) h w

      tuple_shown : (d : PlainData) (ids : List ℕ) (n : ℕ) {tag : Option (List ℕ)} (e : EmitNode) → IsText tag
          → IsHeld d → nestings d ≤ n → written_tuple t ids tag d ≡ Ok e → Whole e → Shown n e
      tuple_shown (tuple_data ds) ids n {tag} e f held deep h w =
          let m = made_ok (emit_sequence_node tag) (written_items t ids ds) e h in
          sequence_shown n (items_nestings ds) f m.0 e m.2 w deep (λ k d v. items_shown ds ids k m.0 held d m.1 v)
      tuple_shown _ ids n {tag} e f held deep h w = leaf_shown (null_node tag) (word_shown n f null_word) h w

      struct_shown : (d : PlainData) (fields : List (List ℕ × ℕ)) (n : ℕ) {tag : Option (List ℕ)} (e : EmitNode)
          → are_texts (names_of fields) ≡ true → IsText tag → IsHeld d → nestings d ≤ n
          → written_struct t fields tag d ≡ Ok e → Whole e → Shown n e
      struct_shown (struct_data ds) fields n {tag} e texts f held deep h w =
          let m = made_ok (emit_mapping_node tag) (written_fields t fields ds) e h in
          mapping_shown n (items_nestings ds) f m.0 e m.2 w deep
          (λ k d v. fields_shown ds fields k m.0 texts held d m.1 v)
      struct_shown _ fields n {tag} e texts f held deep h w =
          leaf_shown (null_node tag) (word_shown n f null_word) h w

      elements_shown : (ds : PlainItems) (id n : ℕ) (es : EmitNodes) → AreHeld ds → items_nestings ds ≤ n
          → written_elements t id ds ≡ Ok es → WholeItems es → ArePrintable n es
      elements_shown no_items_here id n es held deep h w = subst (ArePrintable n) (same_answer _ es h) no_items
      elements_shown (item d ds) id n es held deep h w =
          let j = joined_ok emit_node (written t id None d) (written_elements t id ds) es h in
          let p = whole_parts (emit_node_events j.0) (emit_nodes_events j.1) (subst WholeItems j.4 w) in
          let one = data_shown d id n j.0 no_text held.0 (omega (arith, deep)) j.2 p.0 in
          subst (ArePrintable n) (sym j.4)
          (an_item (one.prints false) (elements_shown ds id n j.1 held.1 (omega (arith, deep)) j.3 p.1))

      items_shown : (ds : PlainItems) (ids : List ℕ) (n : ℕ) (es : EmitNodes) → AreHeld ds → items_nestings ds ≤ n
          → written_items t ids ds ≡ Ok es → WholeItems es → ArePrintable n es
      items_shown no_items_here [] n es held deep h w = subst (ArePrintable n) (same_answer _ es h) no_items
      items_shown no_items_here (id ∷ ids) n es held deep h w = subst (ArePrintable n) (same_answer _ es h) no_items
      items_shown (item d ds) [] n es held deep h w = subst (ArePrintable n) (same_answer _ es h) no_items
      items_shown (item d ds) (id ∷ ids) n es held deep h w =
          let j = joined_ok emit_node (written t id None d) (written_items t ids ds) es h in
          let p = whole_parts (emit_node_events j.0) (emit_nodes_events j.1) (subst WholeItems j.4 w) in
          let one = data_shown d id n j.0 no_text held.0 (omega (arith, deep)) j.2 p.0 in
          subst (ArePrintable n) (sym j.4)
          (an_item (one.prints false) (items_shown ds ids n j.1 held.1 (omega (arith, deep)) j.3 p.1))

      entries_shown : (es : PlainEntries) (key value n : ℕ) (ps : EmitPairs) → EntriesAreHeld es
          → entries_nestings es ≤ n → written_entries t key value es ≡ Ok ps → WholePairs ps → PairsPrintable n ps
      entries_shown no_entries key value n ps held deep h w = subst (PairsPrintable n) (same_answer _ ps h) no_pairs
      entries_shown (entry k v es) key value n ps held deep h w =
          let both = joined pair_node (written t key None k) (written t value None v) in
          let j = joined_ok pair_before both (written_entries t key value es) ps h in
          let i = joined_ok pair_node (written t key None k) (written t value None v) j.0 j.2 in
          let is : ps ≡ emit_pair i.0 i.1 j.1 = j.4 ∙ ap (λ p. pair_before p j.1) i.4 in
          let p = whole_parts (emit_node_events i.0) (emit_node_events i.1 ++ emit_pairs_events j.1)
          (subst WholePairs is w) in
          let q = whole_parts (emit_node_events i.1) (emit_pairs_events j.1) p.1 in
          let one = data_shown k key n i.0 no_text held.0 (omega (arith, deep)) i.2 p.0 in
          let other = data_shown v value n i.1 no_text held.1 (omega (arith, deep)) i.3 q.0 in
          subst (PairsPrintable n) (sym is)
          (a_pair (one.prints (is_simple_key i.0)) (other.prints false)
          (entries_shown es key value n j.1 held.2 (omega (arith, deep)) j.3 q.1))

      fields_shown : (ds : PlainItems) (fields : List (List ℕ × ℕ)) (n : ℕ) (ps : EmitPairs)
          → are_texts (names_of fields) ≡ true → AreHeld ds → items_nestings ds ≤ n
          → written_fields t fields ds ≡ Ok ps → WholePairs ps → PairsPrintable n ps
      fields_shown no_items_here [] n ps texts held deep h w = subst (PairsPrintable n) (same_answer _ ps h) no_pairs
      fields_shown no_items_here (f ∷ fs) n ps texts held deep h w =
          subst (PairsPrintable n) (same_answer _ ps h) no_pairs
      fields_shown (item d ds) [] n ps texts held deep h w = subst (PairsPrintable n) (same_answer _ ps h) no_pairs
      fields_shown (item d ds) (field ∷ fs) n ps texts held deep h w =
          let name = string_node None field.0 in
          let one_pair = made (pair_node name) (written t field.1 None d) in
          let j = joined_ok pair_before one_pair (written_fields t fs ds) ps h in
          let i = made_ok (pair_node name) (written t field.1 None d) j.0 j.2 in
          let is : ps ≡ emit_pair name i.0 j.1 = j.4 ∙ ap (λ p. pair_before p j.1) i.2 in
          let p = whole_parts (emit_node_events name) (emit_node_events i.0 ++ emit_pairs_events j.1)
          (subst WholePairs is w) in
          let q = whole_parts (emit_node_events i.0) (emit_pairs_events j.1) p.1 in
          let texts = and_parts (is_utf8 field.0) (are_texts (names_of fs)) texts in
          let key = string_shown n no_text field.0 (IsUtf8-from_is_utf8 field.0 texts.0) p.0 in
          let one = data_shown d field.1 n i.0 no_text held.0 (omega (arith, deep)) i.1 q.0 in
          subst (PairsPrintable n) (sym is)
          (a_pair (key.prints (is_simple_key name)) (one.prints false)
          (fields_shown ds fs n j.1 texts.1 held.1 (omega (arith, deep)) j.3 q.1))
