-- That data survives one walk is that it is written, loses nothing and nests within the limit.
use Rattle.std.specs.Prelude.{Bool, true, false, not, ◌&&◌, is_ok, nat_lt, nat_le, slice_get}
use Rattle.std.specs.Option.{is_some}
use Rattle.std.proofs.Common.{◌≡◌, ◌≤◌, ◌-◌, ℕ, zero, suc, max, List, [], ◌∷◌, Option, Some, None, Result, Ok, Err}
use Rattle.std.proofs.Common.{arith, refl, sym, ap, ap₂, ◌∙◌}
use Rattle.yaml_base.proofs.RangeLaws.{le-Decides}
use Rattle.yaml_base.specs.EmitTree.{EmitNode, emit_sequence_node, emit_mapping_node, emit_node}
use Rattle.yaml_base.specs.declared.error.Cause.{Cause}
use Rattle.yaml_shape.specs.HasShape.{HasShape, has_shape, has_content, all_have, each_has, entries_have, tuple_has}
use Rattle.yaml_shape.specs.HasShape.{struct_has, on_struct, on_tuple, passes}
use Rattle.yaml_shape.specs.Held.{IsHeld, AreHeld, EntriesAreHeld}
use Rattle.yaml_shape.specs.PlainData.{PlainData, any_data, bool_data, char_data, signed_data, unsigned_data, text_data}
use Rattle.yaml_shape.specs.PlainData.{bytes_data, none_data, some_data, unit_data, newtype_data, seq_data, tuple_data}
use Rattle.yaml_shape.specs.PlainData.{map_data, struct_data, variant_data, ignored_data}
use Rattle.yaml_shape.specs.PlainData.{PlainItems, no_items, item, PlainEntries, no_entries, entry}
use Rattle.yaml_shape.specs.PlainShape.{PlainShape, PlainVariant, unit_variant, newtype_variant, tuple_variant}
use Rattle.yaml_shape.specs.PlainShape.{struct_variant, shape_at, option_shape, newtype_shape, seq_shape, row_shape}
use Rattle.yaml_shape.specs.PlainShape.{map_shape, fields_shape, enum_shape, Owner}
use Rattle.yaml_shape.specs.Validity.{numbers_of}
use Rattle.yaml_tree.specs.Tree.{Tree, null, boolean, number, string, sequence, mapping, tagged}
use Rattle.yaml_tree.specs.Tree.{Trees, no_trees, tree, Pairs, no_pairs, pair}
use Rattle.yaml_tree.specs.Valid.{is_value, are_values, are_pairs}
use Rattle.yaml_tree.specs.Mapping.{keys_distinct}
use Rattle.yaml_tree.specs.Tag.{is_tag}
use Rattle.yaml_write.specs.InShape.{item_shapes, named_fields}
use Rattle.yaml_write.specs.LocalTags.{local_tag, value_tag}
use Rattle.yaml_write.specs.Outcomes.{made, joined, string_node}
use Rattle.yaml_write.specs.Written.{written, written_elements, written_items, written_entries, written_fields}
use Rattle.yaml_write.specs.Written.{variant_by, written_tuple, written_struct}
use Rattle.yaml_write.specs.WrittenParts.{written_content}
use Rattle.yaml_write.specs.WrittenValue.{written_value, written_values, written_pairs, pair_node, pair_before}
use Rattle.yaml_round.specs.Fits.{Fits, data_fits, parts_fit, all_fit, each_fits, entries_fit, variant_passes}
use Rattle.yaml_round.specs.Fits.{is_variant_name, is_written_null, tree_fits, trees_fit, pairs_fit, begins_with_two}
use Rattle.yaml_printed.specs.Nestings.{nestings, items_nestings, entries_nestings, tree_nestings, trees_nestings}
use Rattle.yaml_printed.specs.Nestings.{pairs_nestings}
use Rattle.yaml_round.specs.Survives.{survives, variant_survives, value_survives, values_survive, pairs_survive}
use Rattle.yaml_round.specs.Survives.{all_survive, each_survives, entries_survive, is_null, row_survives}
use Rattle.yaml_round.specs.Survives.{fields_survive}
use Rattle.yaml_round.proofs.NullWritten.{data_null}
use Rattle.yaml_round.proofs.SameOrders.{both, first, second}
use Rattle.yaml_round.proofs.ShapesOfData.{option_is, newtype_is, seq_is, row_is, map_is, variant_is, passes_there}
use Rattle.yaml_round.proofs.ShapesOfData.{unit_data_is}

-- the shape that fields have
fields_is : (test : List ℕ → Bool) (s : PlainShape) → on_struct test s ≡ true
    → (strict : Bool) × (owner : Owner) × (fields : List (List ℕ × ℕ)) × (s ≡ fields_shape strict owner fields)
    × (test (numbers_of fields) ≡ true)
fields_is test (fields_shape strict owner fields) h = (strict, owner, fields, refl, h)
fields_is test _ h = absurd cc

-- tests that pass together are the same
same_test : (a b : Bool) → (a ≡ true → b ≡ true) → (b ≡ true → a ≡ true) → a ≡ b
same_test true b f g = sym (f refl)
same_test false true f g = g refl
same_test false false f g = refl

-- nothing nests within any limit
none_within : (n : ℕ) → nat_le 0 n ≡ true
none_within n = (le-Decides 0 n).1 (omega arith)

-- one nesting more is within a limit that is there, where the others are within one less
deep : (m n : ℕ) → (nat_lt 0 n && nat_le m (n - 1)) ≡ nat_le (suc m) n
deep m zero = same_test false (nat_le (suc m) 0) (λ h. absurd cc)
    (λ h. absurd (omega (arith, (le-Decides (suc m) 0).0 h)))
deep m (suc n) =
    same_test (nat_lt 0 (suc n) && nat_le m (suc n - 1)) (nat_le (suc m) (suc n))
    (λ h. (le-Decides (suc m) (suc n)).1
    (omega (arith, (le-Decides m (suc n - 1)).0 (second (nat_lt 0 (suc n)) (nat_le m (suc n - 1)) h))))
    (λ h. both (nat_lt 0 (suc n)) (nat_le m (suc n - 1)) ((le-Decides 1 (suc n)).1 (omega arith))
    ((le-Decides m (suc n - 1)).1 (omega (arith, (le-Decides (suc m) (suc n)).0 h))))

-- two parts are within a limit where the deeper one is
most : (m k n : ℕ) → (nat_le m n && nat_le k n) ≡ nat_le (max m k) n
most m k n =
    same_test (nat_le m n && nat_le k n) (nat_le (max m k) n)
    (λ h. (le-Decides (max m k) n).1 (omega (
      arith,
      (le-Decides m n).0 (first (nat_le m n) (nat_le k n) h),
      (le-Decides k n).0 (second (nat_le m n) (nat_le k n) h),
    )))
    (λ h. both (nat_le m n) (nat_le k n) ((le-Decides m n).1 (omega (arith, (le-Decides (max m k) n).0 h)))
    ((le-Decides k n).1 (omega (arith, (le-Decides (max m k) n).0 h))))

no_more : (a : Bool) → (a && false) ≡ false
no_more true = refl
no_more false = refl

-- what three tests say of two parts, by test
by_test : (a b c x y z : Bool) → ((a && (b && c)) && (x && (y && z))) ≡ ((a && x) && ((b && y) && (c && z)))
by_test false b c x y z = refl
by_test true b c false y z = no_more (b && c)
by_test true false c true y z = refl
by_test true true c true false z = no_more c
by_test true true false true true z = refl
by_test true true true true true z = refl

-- a test before three, among them
within : (p a b c : Bool) → (p && (a && (b && c))) ≡ (a && ((p && b) && c))
within true a b c = refl
within false true b c = refl
within false false b c = refl

behind : (p a b c : Bool) → (p && (a && (b && c))) ≡ (a && (b && (p && c)))
behind true a b c = refl
behind false true true c = refl
behind false true false c = refl
behind false false b c = refl

-- what is made of parts is there where these are
made_there : {A B : Type 0} (f : A → B) (r : Result A Cause) → is_ok (made f r) ≡ is_ok r
made_there f (Ok a) = refl
made_there f (Err c) = refl

joined_there : {A B C : Type 0} (f : A → B → C) (r : Result A Cause) (s : Result B Cause)
    → is_ok (joined f r s) ≡ (is_ok r && is_ok s)
joined_there f (Ok a) (Ok b) = refl
joined_there f (Ok a) (Err c) = refl
joined_there f (Err c) s = refl

-- a collection: one nesting more
nested : (r f x : Bool) (m n : ℕ) → x ≡ (r && (f && nat_le m (n - 1)))
    → (nat_lt 0 n && x) ≡ (r && (f && nat_le (suc m) n))
nested r f x m n h =
    ap (λ b. nat_lt 0 n && b) h
    ∙ (behind (nat_lt 0 n) r f (nat_le m (n - 1))
    ∙ ap (λ b. r && (f && b)) (deep m n))

-- two parts
two : (a b x y p q : Bool) (m k n : ℕ) → p ≡ (a && (b && nat_le m n)) → q ≡ (x && (y && nat_le k n))
    → (p && q) ≡ ((a && x) && ((b && y) && nat_le (max m k) n))
two a b x y p q m k n h g =
    ap (λ c. c && q) h
    ∙ (ap (λ c. (a && (b && nat_le m n)) && c) g
    ∙ (by_test a b (nat_le m n) x y (nat_le k n)
    ∙ ap (λ c. (a && x) && ((b && y) && c)) (most m k n)))

-- a key with its value, before others
three : (a b x y u v p q o : Bool) (m k l n : ℕ) → p ≡ (a && (b && nat_le m n)) → q ≡ (x && (y && nat_le k n))
    → o ≡ (u && (v && nat_le l n))
    → ((p && q) && o) ≡ (((a && x) && u) && ((b && (y && v)) && nat_le (max m (max k l)) n))
three a b x y u v p q o m k l n h g i =
    two (a && x) (b && y) u v (p && q) o (max m k) l n (two a b x y p q m k n h g) i
    ∙ ap₂ (λ c d. ((a && x) && u) && (c && d)) (three_tests b y v) (ap (λ j. nat_le j n) (most_of m k l))
  where
    three_tests : (b y v : Bool) → ((b && y) && v) ≡ (b && (y && v))
    three_tests true y v = refl
    three_tests false y v = refl

    most_of : (m k l : ℕ) → max (max m k) l ≡ max m (max k l)
    most_of m k l = omega arith

mutual
  -- a value
  value_is : (v : Tree) (tag : Option (List ℕ)) (n : ℕ) → value_survives (is_some tag) n v
      ≡ (is_ok (written_value tag v) && (tree_fits v && nat_le (tree_nestings v) n))
  value_is null tag n = sym (none_within n)
  value_is (boolean b) tag n = sym (none_within n)
  value_is (number z) tag n = sym (none_within n)
  value_is (string text) tag n = sym (none_within n)
  value_is (sequence ts) tag n =
      nested (is_ok (written_values ts)) (trees_fit ts) (values_survive (n - 1) ts) (trees_nestings ts) n
      (values_are ts (n - 1))
      ∙ ap (λ b. b && (trees_fit ts && nat_le (suc (trees_nestings ts)) n))
      (sym (made_there (emit_sequence_node tag) (written_values ts)))
  value_is (mapping ps) tag n =
      nested (is_ok (written_pairs ps)) (pairs_fit ps) (pairs_survive (n - 1) ps) (pairs_nestings ps) n
      (pairs_are ps (n - 1))
      ∙ ap (λ b. b && (pairs_fit ps && nat_le (suc (pairs_nestings ps)) n))
      (sym (made_there (emit_mapping_node tag) (written_pairs ps)))
  value_is (tagged s t) None n =
      ap (λ b. not (begins_with_two s) && b) (value_is t (Some (value_tag s)) n)
      ∙ within (not (begins_with_two s)) (is_ok (written_value (Some (value_tag s)) t)) (tree_fits t)
      (nat_le (tree_nestings t) n)
  value_is (tagged s t) (Some own) n = refl

  values_are : (ts : Trees) (n : ℕ) → values_survive n ts
      ≡ (is_ok (written_values ts) && (trees_fit ts && nat_le (trees_nestings ts) n))
  values_are no_trees n = sym (none_within n)
  values_are (tree t ts) n =
      two (is_ok (written_value None t)) (tree_fits t) (is_ok (written_values ts)) (trees_fit ts)
      (value_survives false n t) (values_survive n ts) (tree_nestings t) (trees_nestings ts) n (value_is t None n)
      (values_are ts n)
      ∙ ap (λ b. b && ((tree_fits t && trees_fit ts) && nat_le (max (tree_nestings t) (trees_nestings ts)) n))
      (sym (joined_there emit_node (written_value None t) (written_values ts)))

  pairs_are : (ps : Pairs) (n : ℕ) → pairs_survive n ps
      ≡ (is_ok (written_pairs ps) && (pairs_fit ps && nat_le (pairs_nestings ps) n))
  pairs_are no_pairs n = sym (none_within n)
  pairs_are (pair k v ps) n =
      three (is_ok (written_value None k)) (tree_fits k) (is_ok (written_value None v)) (tree_fits v)
      (is_ok (written_pairs ps)) (pairs_fit ps) (value_survives false n k) (value_survives false n v)
      (pairs_survive n ps) (tree_nestings k) (tree_nestings v) (pairs_nestings ps) n (value_is k None n)
      (value_is v None n) (pairs_are ps n)
      ∙ ap (λ b. b && (pairs_fit (pair k v ps) && nat_le (pairs_nestings (pair k v ps)) n))
      (sym (joined_there pair_before (joined pair_node (written_value None k) (written_value None v))
      (written_pairs ps)
      ∙ ap (λ b. b && is_ok (written_pairs ps)) (joined_there pair_node (written_value None k) (written_value None v))))

module _ (t : List PlainShape) where
  -- what a walk over data, over items and over fields finds, is what these say of it
  abbrev Found : (id : ℕ) → (tag : Option (List ℕ)) → ℕ → PlainData → Type 0
  Found id tag n d =
      survives t id (is_some tag) n d ≡ (is_ok (written t id tag d) && (data_fits t id d && nat_le (nestings d) n))

  abbrev EachFound : (ids : List ℕ) → ℕ → PlainItems → Type 0
  EachFound ids n ds =
      each_survives t ids n ds
      ≡ (is_ok (written_items t ids ds) && (each_fits t ids ds && nat_le (items_nestings ds) n))

  abbrev FieldsFound : (fields : List (List ℕ × ℕ)) → ℕ → PlainItems → Type 0
  FieldsFound fields n ds =
      each_survives t (numbers_of fields) n ds
      ≡ (is_ok (written_fields t fields ds) && (each_fits t (numbers_of fields) ds && nat_le (items_nestings ds) n))

  -- an optional that is present
  present_is : (d : PlainData) (id : ℕ) (tag : Option (List ℕ)) (n : ℕ)
      → is_written_null (written t id None d) ≡ is_null d → Found id tag n d
      → (not (is_null d) && survives t id (is_some tag) n d)
      ≡ (is_ok (written t id tag d) && ((not (is_written_null (written t id None d)) && data_fits t id d)
      && nat_le (nestings d) n))
  present_is d id tag n same found =
      ap (λ b. not (is_null d) && b) found
      ∙ (within (not (is_null d)) (is_ok (written t id tag d)) (data_fits t id d) (nat_le (nestings d) n)
      ∙ ap (λ b. is_ok (written t id tag d) && ((not b && data_fits t id d) && nat_le (nestings d) n)) (sym same))

  -- items, each of its own shape, in a sequence of their own
  row_is_kept : (ds : PlainItems) (ids : List ℕ) (tag : Option (List ℕ)) (n : ℕ) → EachFound ids (n - 1) ds
      → (nat_lt 0 n && each_survives t ids (n - 1) ds)
      ≡ (is_ok (made (emit_sequence_node tag) (written_items t ids ds))
      && (each_fits t ids ds && nat_le (suc (items_nestings ds)) n))
  row_is_kept ds ids tag n found =
      nested (is_ok (written_items t ids ds)) (each_fits t ids ds) (each_survives t ids (n - 1) ds)
      (items_nestings ds) n found
      ∙ ap (λ b. b && (each_fits t ids ds && nat_le (suc (items_nestings ds)) n))
      (sym (made_there (emit_sequence_node tag) (written_items t ids ds)))

  -- fields, in a mapping of their own
  fields_are_kept : (ds : PlainItems) (fields : List (List ℕ × ℕ)) (tag : Option (List ℕ)) (n : ℕ)
      → FieldsFound fields (n - 1) ds → (nat_lt 0 n && each_survives t (numbers_of fields) (n - 1) ds)
      ≡ (is_ok (made (emit_mapping_node tag) (written_fields t fields ds))
      && (each_fits t (numbers_of fields) ds && nat_le (suc (items_nestings ds)) n))
  fields_are_kept ds fields tag n found =
      nested (is_ok (written_fields t fields ds)) (each_fits t (numbers_of fields) ds)
      (each_survives t (numbers_of fields) (n - 1) ds) (items_nestings ds) n found
      ∙ ap (λ b. b && (each_fits t (numbers_of fields) ds && nat_le (suc (items_nestings ds)) n))
      (sym (made_there (emit_mapping_node tag) (written_fields t fields ds)))

  -- the same, where a shape says so
  row_at : (ds : PlainItems) (id : ℕ) (owner : Owner) (ids : List ℕ) (tag : Option (List ℕ)) (n : ℕ)
      → shape_at t id ≡ Some (row_shape owner ids) → EachFound ids (n - 1) ds
      → passes (shape_at t id) (on_tuple (λ ids. nat_lt 0 n && each_survives t ids (n - 1) ds))
      ≡ (is_ok (made (emit_sequence_node tag) (written_items t (item_shapes (shape_at t id)) ds))
      && (each_fits t (item_shapes (shape_at t id)) ds && nat_le (suc (items_nestings ds)) n))
  row_at ds id owner ids tag n here found = rw here (row_is_kept ds ids tag n found)

  fields_at : (ds : PlainItems) (id : ℕ) (strict : Bool) (owner : Owner) (fields : List (List ℕ × ℕ))
      (tag : Option (List ℕ)) (n : ℕ) → shape_at t id ≡ Some (fields_shape strict owner fields)
      → FieldsFound fields (n - 1) ds
      → passes (shape_at t id) (on_struct (λ ids. nat_lt 0 n && each_survives t ids (n - 1) ds))
      ≡ (is_ok (made (emit_mapping_node tag) (written_fields t (named_fields (shape_at t id)) ds))
      && (each_fits t (numbers_of (named_fields (shape_at t id))) ds && nat_le (suc (items_nestings ds)) n))
  fields_at ds id strict owner fields tag n here found = rw here (fields_are_kept ds fields tag n found)

  -- the content of a variant without and with names
  abbrev RowFound : (ids : List ℕ) → (own : List ℕ) → ℕ → PlainData → Type 0
  RowFound ids own n d =
      row_survives t ids n d
      ≡ (is_ok (written_tuple t ids (Some own) d) && (parts_fit t ids d && nat_le (nestings d) n))

  abbrev NamedFound : (fields : List (List ℕ × ℕ)) → (own : List ℕ) → ℕ → PlainData → Type 0
  NamedFound fields own n d =
      fields_survive t (numbers_of fields) n d
      ≡ (is_ok (written_struct t fields (Some own) d) && (parts_fit t (numbers_of fields) d && nat_le (nestings d) n))

  -- a variant
  variant_is_kept : (name : List ℕ) (content : PlainVariant) (d : PlainData) (tag : Option (List ℕ)) (n : ℕ)
      → has_content t d content ≡ true
      → ((id : ℕ) → has_shape t id d ≡ true → Found id (Some (local_tag name)) n d)
      → ((ids : List ℕ) → tuple_has t ids d ≡ true → RowFound ids (local_tag name) n d)
      → ((fields : List (List ℕ × ℕ)) → struct_has t (numbers_of fields) d ≡ true
      → NamedFound fields (local_tag name) n d)
      → variant_survives t (is_some tag) n d (name, content)
      ≡ (is_ok (variant_by (Some (name, content)) tag (written_content t d))
      && (variant_passes (λ inner. data_fits t inner d) (λ ids. parts_fit t ids d) (Some (name, content))
      && nat_le (nestings d) n))
  variant_is_kept name unit_variant d tag n has one row named =
      let unit = unit_data_is d has in
      rw unit (ap (λ b. is_variant_name name && b) (sym (none_within n)))
  variant_is_kept name (newtype_variant inner) d (Some own) n has one row named = no_more (is_variant_name name)
  variant_is_kept name (newtype_variant inner) d None n has one row named =
      ap (λ b. is_variant_name name && b) (one inner has)
      ∙ within (is_variant_name name) (is_ok (written t inner (Some (local_tag name)) d)) (data_fits t inner d)
      (nat_le (nestings d) n)
  variant_is_kept name (tuple_variant ids) d (Some own) n has one row named = no_more (is_variant_name name)
  variant_is_kept name (tuple_variant ids) d None n has one row named =
      ap (λ b. is_variant_name name && b) (row ids has)
      ∙ within (is_variant_name name) (is_ok (written_tuple t ids (Some (local_tag name)) d)) (parts_fit t ids d)
      (nat_le (nestings d) n)
  variant_is_kept name (struct_variant strict fields) d (Some own) n has one row named =
      no_more (is_variant_name name)
  variant_is_kept name (struct_variant strict fields) d None n has one row named =
      ap (λ b. is_variant_name name && b) (named fields has)
      ∙ within (is_variant_name name) (is_ok (written_struct t fields (Some (local_tag name)) d))
      (parts_fit t (numbers_of fields) d) (nat_le (nestings d) n)

  mutual
    -- data of a shape
    data_is : (d : PlainData) (id : ℕ) (tag : Option (List ℕ)) (n : ℕ) → has_shape t id d ≡ true → IsHeld d
        → Found id tag n d
    data_is (any_data v) id tag n has held = value_is v tag n
    data_is (bool_data b) id tag n has held = sym (none_within n)
    data_is (char_data c) id tag n has held = sym (none_within n)
    data_is (signed_data z) id tag n has held = sym (none_within n)
    data_is (unsigned_data u) id tag n has held = sym (none_within n)
    data_is (text_data lent text) id tag n has held = sym (none_within n)
    data_is (bytes_data bytes) id tag n has held = refl
    data_is none_data id tag n has held = sym (none_within n)
    data_is (some_data d) id tag n has held =
        let s = passes_there (shape_at t id) _ has in
        let o = option_is (λ c. has_shape t c d) s.0 s.2 in
        let here : shape_at t id ≡ Some (option_shape o.0) = s.1 ∙ ap (λ s. Some s) o.1 in
        rw here
        (present_is d o.0 tag n (data_null t d o.0 o.2 held) (data_is d o.0 tag n o.2 held))
    data_is unit_data id tag n has held = sym (none_within n)
    data_is (newtype_data d) id tag n has held =
        let s = passes_there (shape_at t id) _ has in
        let o = newtype_is (λ c. has_shape t c d) s.0 s.2 in
        let here : shape_at t id ≡ Some (newtype_shape o.0 o.1) = s.1 ∙ ap (λ s. Some s) o.2 in
        rw here
        (nested (is_ok (written t o.1 tag d)) (data_fits t o.1 d) (survives t o.1 (is_some tag) (n - 1) d)
        (nestings d) n
        (data_is d o.1 tag (n - 1) o.3 held))
    data_is (seq_data ds) id tag n has held =
        let s = passes_there (shape_at t id) _ has in
        let o = seq_is (λ c. all_have t c ds) s.0 s.2 in
        let here : shape_at t id ≡ Some (seq_shape o.0) = s.1 ∙ ap (λ s. Some s) o.1 in
        rw here
        (nested (is_ok (written_elements t o.0 ds)) (all_fit t o.0 ds) (all_survive t o.0 (n - 1) ds)
        (items_nestings ds) n (all_are ds o.0 (n - 1) o.2 held)
        ∙ ap (λ b. b && (all_fit t o.0 ds && nat_le (suc (items_nestings ds)) n))
        (sym (made_there (emit_sequence_node tag) (written_elements t o.0 ds))))
    data_is (tuple_data ds) id tag n has held =
        let s = passes_there (shape_at t id) _ has in
        let o = row_is (λ ids. each_has t ids ds) s.0 s.2 in
        let here : shape_at t id ≡ Some (row_shape o.0 o.1) = s.1 ∙ ap (λ s. Some s) o.2 in
        row_at ds id o.0 o.1 tag n here (each_is ds o.1 (n - 1) o.3 held)
    data_is (map_data es) id tag n has held =
        let s = passes_there (shape_at t id) _ has in
        let o = map_is (λ key value. entries_have t key value es) s.0 s.2 in
        let here : shape_at t id ≡ Some (map_shape o.0 o.1) = s.1 ∙ ap (λ s. Some s) o.2 in
        rw here
        (nested (is_ok (written_entries t o.0 o.1 es)) (entries_fit t o.0 o.1 es)
        (entries_survive t o.0 o.1 (n - 1) es) (entries_nestings es) n (entries_are es o.0 o.1 (n - 1) o.3 held)
        ∙ ap (λ b. b && (entries_fit t o.0 o.1 es && nat_le (suc (entries_nestings es)) n))
        (sym (made_there (emit_mapping_node tag) (written_entries t o.0 o.1 es))))
    data_is (struct_data ds) id tag n has held =
        let s = passes_there (shape_at t id) _ has in
        let o = fields_is (λ ids. each_has t ids ds) s.0 s.2 in
        let here : shape_at t id ≡ Some (fields_shape o.0 o.1 o.2) = s.1 ∙ ap (λ s. Some s) o.3 in
        fields_at ds id o.0 o.1 o.2 tag n here (fields_are ds o.2 (n - 1) o.4 held)
    data_is (variant_data place d) id tag n has held =
        let s = passes_there (shape_at t id) _ has in
        let v = variant_is place (has_content t d) s.0 s.2 in
        let x = passes_there (slice_get v.1 place) (λ x. has_content t d x.1) v.3 in
        let here : shape_at t id ≡ Some (enum_shape v.0 v.1) = s.1 ∙ ap (λ s. Some s) v.2 in
        rw (here, x.1)
        (variant_is_kept x.0.0 x.0.1 d tag n x.2 (λ j h. data_is d j (Some (local_tag x.0.0)) n h held)
        (λ ids h. row_found d ids (local_tag x.0.0) n h held)
        (λ fields h. named_found d fields (local_tag x.0.0) n h held))
    data_is ignored_data id tag n has held = sym (none_within n)

    row_found : (d : PlainData) (ids own : List ℕ) (n : ℕ) → tuple_has t ids d ≡ true → IsHeld d
        → RowFound ids own n d
    row_found (tuple_data ds) ids own n has held =
        row_is_kept ds ids (Some own) n (each_is ds ids (n - 1) has held)
    row_found _ ids own n has held = absurd cc

    named_found : (d : PlainData) (fields : List (List ℕ × ℕ)) (own : List ℕ) (n : ℕ)
        → struct_has t (numbers_of fields) d ≡ true → IsHeld d → NamedFound fields own n d
    named_found (struct_data ds) fields own n has held =
        fields_are_kept ds fields (Some own) n (fields_are ds fields (n - 1) has held)
    named_found _ fields own n has held = absurd cc

    -- elements, all of one shape
    all_are : (ds : PlainItems) (id n : ℕ) → all_have t id ds ≡ true → AreHeld ds → all_survive t id n ds
        ≡ (is_ok (written_elements t id ds) && (all_fit t id ds && nat_le (items_nestings ds) n))
    all_are no_items id n has held = sym (none_within n)
    all_are (item d ds) id n has held =
        two (is_ok (written t id None d)) (data_fits t id d) (is_ok (written_elements t id ds)) (all_fit t id ds)
        (survives t id false n d) (all_survive t id n ds) (nestings d) (items_nestings ds) n
        (data_is d id None n (first (has_shape t id d) (all_have t id ds) has) held.0)
        (all_are ds id n (second (has_shape t id d) (all_have t id ds) has) held.1)
        ∙ ap (λ b. b && (all_fit t id (item d ds) && nat_le (items_nestings (item d ds)) n))
        (sym (joined_there emit_node (written t id None d) (written_elements t id ds)))

    -- items, each of its own shape
    each_is : (ds : PlainItems) (ids : List ℕ) (n : ℕ) → each_has t ids ds ≡ true → AreHeld ds
        → EachFound ids n ds
    each_is no_items [] n has held = sym (none_within n)
    each_is no_items (id ∷ ids) n has held = absurd cc
    each_is (item d ds) [] n has held = absurd cc
    each_is (item d ds) (id ∷ ids) n has held =
        two (is_ok (written t id None d)) (data_fits t id d) (is_ok (written_items t ids ds)) (each_fits t ids ds)
        (survives t id false n d) (each_survives t ids n ds) (nestings d) (items_nestings ds) n
        (data_is d id None n (first (has_shape t id d) (each_has t ids ds) has) held.0)
        (each_is ds ids n (second (has_shape t id d) (each_has t ids ds) has) held.1)
        ∙ ap (λ b. b && (each_fits t (id ∷ ids) (item d ds) && nat_le (items_nestings (item d ds)) n))
        (sym (joined_there emit_node (written t id None d) (written_items t ids ds)))

    -- fields with their names
    fields_are : (ds : PlainItems) (fields : List (List ℕ × ℕ)) (n : ℕ) → each_has t (numbers_of fields) ds ≡ true
        → AreHeld ds → FieldsFound fields n ds
    fields_are no_items [] n has held = sym (none_within n)
    fields_are no_items (f ∷ fs) n has held = absurd cc
    fields_are (item d ds) [] n has held = absurd cc
    fields_are (item d ds) (f ∷ fs) n has held =
        two (is_ok (written t f.1 None d)) (data_fits t f.1 d) (is_ok (written_fields t fs ds))
        (each_fits t (numbers_of fs) ds) (survives t f.1 false n d) (each_survives t (numbers_of fs) n ds)
        (nestings d) (items_nestings ds) n
        (data_is d f.1 None n (first (has_shape t f.1 d) (each_has t (numbers_of fs) ds) has) held.0)
        (fields_are ds fs n (second (has_shape t f.1 d) (each_has t (numbers_of fs) ds) has) held.1)
        ∙ ap (λ b. b && (each_fits t (numbers_of (f ∷ fs)) (item d ds) && nat_le (items_nestings (item d ds)) n))
        (sym (joined_there pair_before (made (pair_node (string_node None f.0)) (written t f.1 None d))
        (written_fields t fs ds)
        ∙ ap (λ b. b && is_ok (written_fields t fs ds))
        (made_there (pair_node (string_node None f.0)) (written t f.1 None d))))

    -- keys with their values
    entries_are : (es : PlainEntries) (key value n : ℕ) → entries_have t key value es ≡ true → EntriesAreHeld es
        → entries_survive t key value n es
        ≡ (is_ok (written_entries t key value es) && (entries_fit t key value es && nat_le (entries_nestings es) n))
    entries_are no_entries key value n has held = sym (none_within n)
    entries_are (entry k v es) key value n has held =
        let has' = second (has_shape t key k) (has_shape t value v && entries_have t key value es) has in
        three (is_ok (written t key None k)) (data_fits t key k) (is_ok (written t value None v)) (data_fits t value v)
        (is_ok (written_entries t key value es)) (entries_fit t key value es) (survives t key false n k)
        (survives t value false n v) (entries_survive t key value n es) (nestings k) (nestings v)
        (entries_nestings es) n
        (data_is k key None n (first (has_shape t key k) (has_shape t value v && entries_have t key value es) has)
        held.0)
        (data_is v value None n (first (has_shape t value v) (entries_have t key value es) has') held.1)
        (entries_are es key value n (second (has_shape t value v) (entries_have t key value es) has') held.2)
        ∙ ap (λ b. b && (entries_fit t key value (entry k v es) && nat_le (entries_nestings (entry k v es)) n))
        (sym (joined_there pair_before (joined pair_node (written t key None k) (written t value None v))
        (written_entries t key value es)
        ∙ ap (λ b. b && is_ok (written_entries t key value es))
        (joined_there pair_node (written t key None k) (written t value None v))))

  -- what is there
  there : {A : Type 0} (r : Result A Cause) → is_ok r ≡ true → (a : A) × (r ≡ Ok a)
  there (Ok a) h = (a, refl)
  there (Err c) h = absurd cc

  -- data survives exactly where it fits
  pub survives_is_fits : (nesting id : ℕ) (d : PlainData) → HasShape t id d → IsHeld d
      → (survives t id false nesting d ≡ true → Fits nesting t id d)
      × (Fits nesting t id d → survives t id false nesting d ≡ true)
  survives_is_fits nesting id d has held = (
    λ h. let all = sym (data_is d id None nesting has held) ∙ h in
        let rest = second (is_ok (written t id None d)) (data_fits t id d && nat_le (nestings d) nesting) all in
        record {
          typed = has;
          written =
              there (written t id None d)
              (first (is_ok (written t id None d)) (data_fits t id d && nat_le (nestings d) nesting) all);
          nests_within =
              (le-Decides (nestings d) nesting).0 (second (data_fits t id d) (nat_le (nestings d) nesting) rest);
          returns = first (data_fits t id d) (nat_le (nestings d) nesting) rest;
        },
    λ fits. data_is d id None nesting has held
        ∙ both (is_ok (written t id None d)) (data_fits t id d && nat_le (nestings d) nesting)
        (ap is_ok fits.written.1)
        (both (data_fits t id d) (nat_le (nestings d) nesting) fits.returns
        ((le-Decides (nestings d) nesting).1 fits.nests_within)),
  )
